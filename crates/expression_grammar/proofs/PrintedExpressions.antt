-- Each text of an expression, written again with the fewest parentheses, is a text of the same tree, no deeper and no longer.
use Rattle.std.proofs.Common.{◌≡◌, ℕ, zero, suc, List, [], ◌∷◌, ◌++◌, Some, sym, ap, ◌∙◌, subst, inl, inr, codes, append-nil}
use Rattle.cube_lex.specs.Lexeme.{Lexeme}
use Rattle.grammar.specs.Grammar.{Grammar, both, either, many}
use Rattle.cube_lex.specs.Written.{sign_token}
use Rattle.expression_grammar.specs.declared.sort.Sort.{Sort}
use Rattle.expression_grammar.specs.declared.sort.Sort.TheVariants as sorts
use Rattle.expression_grammar.specs.Expression.{chain, prefixed, enclosed, Primaries, value_of, comparison, truth_of, within, expression}
use Rattle.expression_grammar.specs.Language.{Table, operator, Language}
use Rattle.expression_grammar.proofs.PrintedTokens.{Spells, Picks, spells_both, spells_next, spells_made, spells_in}
use Rattle.expression_grammar.proofs.PrintedLimits.{Counting, Shorter, IsWrittenSign, shorter_joined}
use Rattle.expression_grammar.proofs.PrintedLevels.{Writing, Ladder, IsLadder, IsInner, rung, shown, whole_again}

-- Grammars that have the texts of others.

-- each text of G is one of H, with the same tree
pub record Includes {A : Type 0} (G H : Grammar Lexeme A) : Type 0 where
  pub at : (ts : List Lexeme) (e : A) → G ts e → H ts e

pub includes_both : {A B : Type 0} {G H : Grammar Lexeme A} {K L : A → Grammar Lexeme B} → Includes G H → ((a : A) → Includes (K a) (L a)) → Includes (both G K) (both H L)
includes_both g k = record { at = λ ts e (u, v, a, parts, h, l). (u, v, a, parts, g.at u a h, (k a).at v e l) }

pub includes_same : {A : Type 0} {G : Grammar Lexeme A} → Includes G G
includes_same = record { at = λ ts e h. h }

either_at : {A : Type 0} {G H G' H' : Grammar Lexeme A} → Includes G G' → Includes H H' → (ts : List Lexeme) (e : A) → either G H ts e → either G' H' ts e
either_at g h ts e (inl x) = inl (g.at ts e x)
either_at g h ts e (inr x) = inr (h.at ts e x)

pub includes_either : {A : Type 0} {G H G' H' : Grammar Lexeme A} → Includes G G' → Includes H H' → Includes (either G H) (either G' H')
includes_either g h = record { at = either_at g h }

many_at : {A : Type 0} {G H : Grammar Lexeme A} → Includes G H → (list : List A) (ts : List Lexeme) → many G ts list → many H ts list
many_at g [] ts h = h
many_at g (a ∷ list) ts (u, v, parts, h, more) = (u, v, parts, g.at u a h, many_at g list v more)

pub includes_many : {A : Type 0} {G H : Grammar Lexeme A} → Includes G H → Includes (many G) (many H)
includes_many g = record { at = λ ts list. many_at g list ts }

pub includes_enclosed : {A : Type 0} {G H : Grammar Lexeme A} → Includes G H → Includes (enclosed G) (enclosed H)
includes_enclosed g = includes_both includes_same (λ _. includes_both g (λ _. includes_same))

includes_chain : {A O : Type 0} {G H : Grammar Lexeme A} (joined : O → A → A → A) (table : Table O) → Includes G H → Includes (chain joined table G) (chain joined table H)
includes_chain joined table g = includes_both g (λ head. includes_both (includes_many (includes_both includes_same (λ o. includes_both g (λ _. includes_same)))) (λ _. includes_same))

includes_prefixed : {A : Type 0} {G H : Grammar Lexeme A} (before : List ℕ) (make : A → A) → Includes G H → Includes (prefixed before make G) (prefixed before make H)
includes_prefixed before make g = includes_either (includes_both includes_same (λ _. includes_both g (λ _. includes_same))) g

module _ {A O : Type 0} (L : Ladder A O) (inner atom inner' atom' : Grammar Lexeme A) (i : Includes inner inner') (a : Includes atom atom') where
  pub includes_rung : (level : ℕ) → Includes (rung L inner atom level) (rung L inner' atom' level)
  includes_rung zero = includes_chain L.joined L.loose (includes_chain L.joined L.tight (includes_prefixed L.before L.make (includes_either (includes_enclosed i) a)))
  includes_rung (suc zero) = includes_chain L.joined L.tight (includes_prefixed L.before L.make (includes_either (includes_enclosed i) a))
  includes_rung (suc (suc zero)) = includes_prefixed L.before L.make (includes_either (includes_enclosed i) a)
  includes_rung (suc (suc (suc _))) = includes_either (includes_enclosed i) a

-- Values and truths.

abbrev pub values : {A O : Type 0} → Language A O → Ladder A O
values L = record { joined = L.joined; loose = L.sum; tight = L.product; before = codes "-"; make = L.negated }

abbrev pub truths : {A O : Type 0} → Language A O → Ladder A O
truths L = record { joined = L.joined; loose = L.or; tight = L.and; before = codes "~"; make = L.opposite }

-- the comparisons of a language, which bind most tightly among truths
pub record IsCompared {A O : Type 0} (C : Counting) (W : Writing A O) (L : Language A O) : Type 0 where
  pub rank : (t : Lexeme) (o : O) → operator L.relation t ≡ Some o → (a b : A) → W.rank (L.joined o a b) ≡ 3
  pub bare : (t : Lexeme) (o : O) → operator L.relation t ≡ Some o → (a b : A) → W.bare (L.joined o a b) ≡ W.bare a ++ sign_token (W.sign o) ∷ W.bare b
  pub picks : (t : Lexeme) (o : O) → operator L.relation t ≡ Some o → Picks (operator L.relation) (sign_token (W.sign o)) o
  pub read : (t : Lexeme) (o : O) → operator L.relation t ≡ Some o → C.Joins t
  pub written : (t : Lexeme) (o : O) → operator L.relation t ≡ Some o → IsWrittenSign C.Joins (W.sign o)

-- what is known of texts of a grammar, where they are written again
pub record IsWrittenAgain {A O : Type 0} (C : Counting) (W : Writing A O) (G : Grammar Lexeme A) : Type 0 where
  pub text : (u : List Lexeme) (e : A) → G u e → Spells G (W.bare e) e
  pub short : (u : List Lexeme) (e : A) → G u e → Shorter C (W.bare e) u

-- the primaries of a language, which bind most tightly among values, by the expressions inside them
pub record IsPrimary {A O : Type 0} (C : Counting) (W : Writing A O) (primary : Primaries A) : Type 1 where
  pub includes : (V T V' T' : Grammar Lexeme A) → Includes V V' → Includes T T' → Includes (primary V T) (primary V' T')
  pub rank : (V T : Grammar Lexeme A) (u : List Lexeme) (e : A) → primary V T u e → W.rank e ≡ 3
  pub again : (V T : Grammar Lexeme A) → IsWrittenAgain C W V → IsWrittenAgain C W T → IsWrittenAgain C W (primary V T)

pub record IsWriting {A O : Type 0} (C : Counting) (W : Writing A O) (L : Language A O) (primary : Primaries A) : Type 1 where
  pub values : IsLadder C W (values L)
  pub truths : IsLadder C W (truths L)
  pub compared : IsCompared C W L
  pub primaries : IsPrimary C W primary

module _ {A O : Type 0} (C : Counting) (W : Writing A O) (L : Language A O) (primary : Primaries A) (is : IsWriting C W L primary) where
  -- values and truths of this level, by the expressions inside them
  value_at : Grammar Lexeme A → Grammar Lexeme A → ℕ → Grammar Lexeme A
  value_at V T = rung (values L) V (primary V T)

  truth_at : Grammar Lexeme A → Grammar Lexeme A → ℕ → Grammar Lexeme A
  truth_at V T = rung (truths L) T (comparison L (value_of L primary V T))

  value_includes : (V T V' T' : Grammar Lexeme A) → Includes V V' → Includes T T' → (level : ℕ) → Includes (value_at V T level) (value_at V' T' level)
  unfolding value_at
  value_includes V T V' T' v t level = includes_rung (values L) V (primary V T) V' (primary V' T') v (is.primaries.includes V T V' T' v t) level

  truth_includes : (V T V' T' : Grammar Lexeme A) → Includes V V' → Includes T T' → (level : ℕ) → Includes (truth_at V T level) (truth_at V' T' level)
  unfolding value_at truth_at
  truth_includes V T V' T' v t level = includes_rung (truths L) T (comparison L (value_of L primary V T)) T' (comparison L (value_of L primary V' T')) t
      (includes_both (value_includes V T V' T' v t 0) (λ left. includes_both includes_same (λ o. includes_both (value_includes V T V' T' v t 0) (λ _. includes_same)))) level

  -- the expressions of a height are among those of the next
  higher : (h : ℕ) (sort : Sort) → Includes (within L primary h sort) (within L primary (suc h) sort)
  unfolding value_at truth_at
  higher zero sort = record { at = λ ts e h. absurd (none sort ts e h) } where
    none : (sort : Sort) (ts : List Lexeme) (e : A) → within L primary zero sort ts e → ⊥
    none sorts.Value ts e h = h
    none sorts.Truth ts e h = h
  higher (suc h) sorts.Value = value_includes (within L primary h sorts.Value) (within L primary h sorts.Truth) (within L primary (suc h) sorts.Value) (within L primary (suc h) sorts.Truth) (higher h sorts.Value) (higher h sorts.Truth) 0
  higher (suc h) sorts.Truth = truth_includes (within L primary h sorts.Value) (within L primary h sorts.Truth) (within L primary (suc h) sorts.Value) (within L primary (suc h) sorts.Truth) (higher h sorts.Value) (higher h sorts.Truth) 0

  compared_again : (V : Grammar Lexeme A) → IsWrittenAgain C W V → (u : List Lexeme) (e : A) → comparison L V u e → (W.rank e ≡ 3) × Spells (comparison L V) (W.bare e) e × Shorter C (W.bare e) u
  compared_again V again u e (a, b, left, parts, g, (c, d, o, further, (t, is-t, takes), (f, k, right, ends, h, (nothing, is-e)))) =
      let whole : u ≡ a ++ t ∷ f = parts ∙ ap (λ l. a ++ l) (further ∙ ap (λ l. l ++ d) is-t ∙ ap (λ l. t ∷ l) (ends ∙ ap (λ l. f ++ l) nothing ∙ append-nil f)) in
      let bare : W.bare e ≡ W.bare left ++ sign_token (W.sign o) ∷ W.bare right = ap W.bare is-e ∙ is.compared.bare t o takes left right in
      let text : Spells (comparison L V) (W.bare left ++ sign_token (W.sign o) ∷ W.bare right) (L.joined o left right) =
      spells_both (again.text a left g) (spells_next (is.compared.picks t o takes) (spells_made (L.joined o left) (again.text f right h))) in
      let short : Shorter C (W.bare left ++ sign_token (W.sign o) ∷ W.bare right) (a ++ t ∷ f) = shorter_joined (W.sign o) t (is.compared.written t o takes) (is.compared.read t o takes) (again.short a left g) (again.short f right h) in (
        ap W.rank is-e ∙ is.compared.rank t o takes left right,
        subst (λ y. Spells (comparison L V) (W.bare e) y) (sym is-e) (subst (λ l. Spells (comparison L V) l (L.joined o left right)) (sym bare) text),
        subst (λ l. Shorter C (W.bare e) l) (sym whole) (subst (λ l. Shorter C l (a ++ t ∷ f)) (sym bare) short),
      )

  -- what is known of the expressions inside others: they are written again as such, and at their own level, as the others are
  record IsInside (V T V' T' : Grammar Lexeme A) : Type 0 where
    value : IsWrittenAgain C W V
    truth : IsWrittenAgain C W T
    value_bare : (u : List Lexeme) (e : A) → V u e → Spells (value_at V' T' (W.rank e)) (W.bare e) e
    truth_bare : (u : List Lexeme) (e : A) → T u e → Spells (truth_at V' T' (W.rank e)) (W.bare e) e

  values_inner : (V T : Grammar Lexeme A) → IsInside V T V T → IsInner C W (values L) V (primary V T)
  unfolding value_at
  values_inner V T k =
      let again : IsWrittenAgain C W (primary V T) = is.primaries.again V T k.value k.truth in
      record {
        inside = λ u e h. (record { text = k.value_bare u e h; short = k.value.short u e h }, k.value.text u e h);
        rank = λ u e h. is.primaries.rank V T u e h;
        text = λ u e h. again.text u e h;
        short = λ u e h. again.short u e h;
      }

  values_again : (V T : Grammar Lexeme A) → IsInside V T V T → IsWrittenAgain C W (value_of L primary V T)
  values_again V T k = record {
    text = λ u e h. (whole_again C W (values L) is.values V (primary V T) (values_inner V T k) u e h).0;
    short = λ u e h. (whole_again C W (values L) is.values V (primary V T) (values_inner V T k) u e h).1;
  }

  truths_inner : (V T : Grammar Lexeme A) → IsInside V T V T → IsInner C W (truths L) T (comparison L (value_of L primary V T))
  unfolding truth_at
  truths_inner V T k = record {
    inside = λ u e h. (record { text = k.truth_bare u e h; short = k.truth.short u e h }, k.truth.text u e h);
    rank = λ u e h. (compared_again (value_of L primary V T) (values_again V T k) u e h).0;
    text = λ u e h. (compared_again (value_of L primary V T) (values_again V T k) u e h).1;
    short = λ u e h. (compared_again (value_of L primary V T) (values_again V T k) u e h).2;
  }

  truths_again : (V T : Grammar Lexeme A) → IsInside V T V T → IsWrittenAgain C W (truth_of L primary V T)
  truths_again V T k = record {
    text = λ u e h. (whole_again C W (truths L) is.truths T (comparison L (value_of L primary V T)) (truths_inner V T k) u e h).0;
    short = λ u e h. (whole_again C W (truths L) is.truths T (comparison L (value_of L primary V T)) (truths_inner V T k) u e h).1;
  }

  -- at each height
  again_within : (h : ℕ) → IsInside (within L primary h sorts.Value) (within L primary h sorts.Truth) (within L primary h sorts.Value) (within L primary h sorts.Truth)
  unfolding value_at truth_at
  again_within zero = record {
    value = record { text = λ u e h. absurd h; short = λ u e h. absurd h };
    truth = record { text = λ u e h. absurd h; short = λ u e h. absurd h };
    value_bare = λ u e h. absurd h;
    truth_bare = λ u e h. absurd h;
  }
  again_within (suc h) =
      let V : Grammar Lexeme A = within L primary h sorts.Value in
      let T : Grammar Lexeme A = within L primary h sorts.Truth in
      let V' : Grammar Lexeme A = within L primary (suc h) sorts.Value in
      let T' : Grammar Lexeme A = within L primary (suc h) sorts.Truth in
      let k : IsInside V T V T = again_within h in
      let v : Includes V V' = higher h sorts.Value in
      let t : Includes T T' = higher h sorts.Truth in
      record {
        value = values_again V T k;
        truth = truths_again V T k;
        value_bare = λ u e g. spells_in (λ ts. (value_includes V T V' T' v t (W.rank e)).at ts e) (shown C W (values L) is.values V (primary V T) (values_inner V T k) u e g).bare.text;
        truth_bare = λ u e g. spells_in (λ ts. (truth_includes V T V' T' v t (W.rank e)).at ts e) (shown C W (truths L) is.truths T (comparison L (value_of L primary V T)) (truths_inner V T k) u e g).bare.text;
      }

  -- an expression of a height, written again, is one of the same height
  pub again_at : (h : ℕ) (sort : Sort) → IsWrittenAgain C W (within L primary h sort)
  again_at h sorts.Value = (again_within h).value
  again_at h sorts.Truth = (again_within h).truth

  -- each expression, written again, is one of the same tree, no deeper and no longer
  pub expression_again : (sort : Sort) → IsWrittenAgain C W (expression L primary sort)
  expression_again sort = record {
    text = λ u e (h, g). record { at = λ ts same. (h, ((again_at h sort).text u e g).at ts same) };
    short = λ u e (h, g). (again_at h sort).short u e g;
  }
