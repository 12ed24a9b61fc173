-- The four levels of trees of one sort, written with the fewest parentheses. Values and truths have the same levels: operators, tighter operators, a sign before, and what is no operation of this sort.
use Rattle.std.proofs.Common.{◌≡◌, ◌≤◌, ℕ, ◌+◌, ◌-◌, zero, suc, List, [], ◌∷◌, ◌++◌, Bool, true, false, Some, ◌⊎◌, inl, inr, nat_lt, if◌then◌else◌, refl, sym, ap, ◌∙◌, subst, codes, arith, append-nil, append_assoc}
use Rattle.std.proofs.lemmas.Bool.{ltb-true, ltb-false}
use Rattle.cube_lex.specs.Lexeme.{Lexeme}
use Rattle.cube_lex.specs.Written.{Spelling, sign_token}
use Rattle.grammar.specs.Grammar.{Grammar, either, many}
use Rattle.grammar.specs.Tokens.{is_sign}
use Rattle.grammar.proofs.Tokens.{when_picks}
use Rattle.expression_grammar.specs.Expression.{from_left, operation, chain, prefixed, enclosed}
use Rattle.expression_grammar.specs.Language.{Table, operator}
use Rattle.expression_grammar.specs.Spelled.{in_parentheses, placed}
use Rattle.grammar.proofs.Spells.{split_at}
use Rattle.expression_grammar.proofs.PrintedTokens.{Spells, Picks, spells_next, spells_made, spells_left, spells_in, spells_enclosed, picks_sign, chain_of_one, chain_more, split_next}
use Rattle.expression_grammar.proofs.PrintedLimits.{Counting, Shorter, IsWrittenSign, shorter_joined, shorter_prefixed, shorter_without, shorter_enclosed}

-- how trees are written: how tightly the root of one binds, its tokens without parentheses round it, and the sign of an operator
pub record Writing (A O : Type 0) : Type 0 where
  pub rank : A → ℕ
  pub bare : A → List Spelling
  pub sign : O → List ℕ

-- a tree where one must bind at least as tightly as level
abbrev pub at_level : {A O : Type 0} → Writing A O → ℕ → A → List Spelling
at_level W level e = placed level (W.rank e) (W.bare e)

-- the operators of a table, at this level, stand between a left operand of their own level and a right one of the next
pub record IsJoined {A O : Type 0} (C : Counting) (W : Writing A O) (joined : O → A → A → A) (table : Table O) (level : ℕ) : Type 0 where
  pub rank : (t : Lexeme) (o : O) → operator table t ≡ Some o → (a b : A) → W.rank (joined o a b) ≡ level
  pub bare : (t : Lexeme) (o : O) → operator table t ≡ Some o → (a b : A) → W.bare (joined o a b) ≡ at_level W level a ++ sign_token (W.sign o) ∷ at_level W (level + 1) b
  pub picks : (t : Lexeme) (o : O) → operator table t ≡ Some o → Picks (operator table) (sign_token (W.sign o)) o
  pub read : (t : Lexeme) (o : O) → operator table t ≡ Some o → C.Joins t
  pub written : (t : Lexeme) (o : O) → operator table t ≡ Some o → IsWrittenSign C.Joins (W.sign o)

-- a sign before a tree, which stands before what is no operation
pub record IsPrefixed {A O : Type 0} (C : Counting) (W : Writing A O) (before : List ℕ) (make : A → A) : Type 0 where
  pub rank : (e : A) → W.rank (make e) ≡ 2
  pub bare : (e : A) → W.bare (make e) ≡ sign_token before ∷ at_level W 3 e
  pub read : (t : Lexeme) → is_sign before t ≡ true → C.Precedes t
  pub written : IsWrittenSign C.Precedes before

-- a sort of trees: its operators, and the sign before
pub record Ladder (A O : Type 0) : Type 0 where
  pub joined : O → A → A → A
  pub loose : Table O
  pub tight : Table O
  pub before : List ℕ
  pub make : A → A

pub record IsLadder {A O : Type 0} (C : Counting) (W : Writing A O) (L : Ladder A O) : Type 0 where
  pub loose : IsJoined C W L.joined L.loose 0
  pub tight : IsJoined C W L.joined L.tight 1
  pub before : IsPrefixed C W L.before L.make

-- the texts of trees that bind at least as tightly as level, where inner stands in parentheses and atom is no operation of this sort
abbrev pub rung : {A O : Type 0} → Ladder A O → Grammar Lexeme A → Grammar Lexeme A → ℕ → Grammar Lexeme A
rung L inner atom zero = chain L.joined L.loose (chain L.joined L.tight (prefixed L.before L.make (either (enclosed inner) atom)))
rung L inner atom (suc zero) = chain L.joined L.tight (prefixed L.before L.make (either (enclosed inner) atom))
rung L inner atom (suc (suc zero)) = prefixed L.before L.make (either (enclosed inner) atom)
rung L inner atom (suc (suc (suc _))) = either (enclosed inner) atom

module _ {A O : Type 0} (L : Ladder A O) (inner atom : Grammar Lexeme A) where
  one_down : (level : ℕ) (ts : List Lexeme) (e : A) → rung L inner atom (suc level) ts e → rung L inner atom level ts e
  one_down zero ts e h = chain_of_one L.joined L.loose (rung L inner atom 1) ts e h
  one_down (suc zero) ts e h = chain_of_one L.joined L.tight (rung L inner atom 2) ts e h
  one_down (suc (suc zero)) ts e h = inr h
  one_down (suc (suc (suc k))) ts e h = h

  steps_down : (k level : ℕ) (ts : List Lexeme) (e : A) → rung L inner atom (k + level) ts e → rung L inner atom level ts e
  steps_down zero level ts e h = let same : 0 + level ≡ level = omega arith in subst (λ n. rung L inner atom n ts e) same h
  steps_down (suc k) level ts e h =
      let same : suc k + level ≡ suc (k + level) = omega arith in
      steps_down k level ts e (one_down (k + level) ts e (subst (λ n. rung L inner atom n ts e) same h))

  -- what binds more tightly may stand where a looser tree may
  down : (level own : ℕ) → level ≤ own → (ts : List Lexeme) (e : A) → rung L inner atom own ts e → rung L inner atom level ts e
  down level own le ts e h =
      let same : own ≡ (own - level) + level = omega (arith, le) in
      steps_down (own - level) level ts e (subst (λ n. rung L inner atom n ts e) same h)

  from_top : (level : ℕ) (ts : List Lexeme) (e : A) → either (enclosed inner) atom ts e → rung L inner atom level ts e
  from_top zero ts e h = down 0 3 (omega arith) ts e h
  from_top (suc zero) ts e h = down 1 3 (omega arith) ts e h
  from_top (suc (suc zero)) ts e h = inr h
  from_top (suc (suc (suc k))) ts e h = h

-- what is known of a text of a tree, where it is written again: without parentheses it is a text of its own level, and no longer
pub record Bare {A O : Type 0} (C : Counting) (W : Writing A O) (L : Ladder A O) (inner atom : Grammar Lexeme A) (u : List Lexeme) (e : A) : Type 0 where
  pub text : Spells (rung L inner atom (W.rank e)) (W.bare e) e
  pub short : Shorter C (W.bare e) u

-- and so it is in parentheses
pub record Enclosed {A O : Type 0} (C : Counting) (W : Writing A O) (inner : Grammar Lexeme A) (u : List Lexeme) (e : A) : Type 0 where
  pub text : Spells inner (W.bare e) e
  pub short : Shorter C (in_parentheses (W.bare e)) u

-- a text of level, whose tree binds as tightly, or else stood in parentheses
pub record Shown {A O : Type 0} (C : Counting) (W : Writing A O) (L : Ladder A O) (inner atom : Grammar Lexeme A) (level : ℕ) (u : List Lexeme) (e : A) : Type 0 where
  pub bare : Bare C W L inner atom u e
  pub fits : (level ≤ W.rank e) ⊎ Enclosed C W inner u e

-- a tree as it is written at a level
pub record IsPlaced {A O : Type 0} (C : Counting) (W : Writing A O) (G : Grammar Lexeme A) (level : ℕ) (u : List Lexeme) (e : A) : Type 0 where
  pub text : Spells G (at_level W level e) e
  pub short : Shorter C (at_level W level e) u

-- what is known of the texts in parentheses, and of those that are no operation of this sort
pub record IsInner {A O : Type 0} (C : Counting) (W : Writing A O) (L : Ladder A O) (inner atom : Grammar Lexeme A) : Type 0 where
  pub inside : (u : List Lexeme) (e : A) → inner u e → Bare C W L inner atom u e × Spells inner (W.bare e) e
  pub rank : (u : List Lexeme) (e : A) → atom u e → W.rank e ≡ 3
  pub text : (u : List Lexeme) (e : A) → atom u e → Spells atom (W.bare e) e
  pub short : (u : List Lexeme) (e : A) → atom u e → Shorter C (W.bare e) u

module _ {A O : Type 0} (C : Counting) (W : Writing A O) (L : Ladder A O) (is : IsLadder C W L) (inner atom : Grammar Lexeme A) where
  weaker : (level : ℕ) (u : List Lexeme) (e : A) → (level + 1 ≤ W.rank e) ⊎ Enclosed C W inner u e → (level ≤ W.rank e) ⊎ Enclosed C W inner u e
  weaker level u e (inl le) = inl (omega (arith, le))
  weaker level u e (inr h) = inr h

  placed_so : (level : ℕ) (u : List Lexeme) (e : A) → Bare C W L inner atom u e → (level ≤ W.rank e) ⊎ Enclosed C W inner u e → (looser : Bool) → nat_lt (W.rank e) level ≡ looser
      → Spells (rung L inner atom level) (if looser then in_parentheses (W.bare e) else W.bare e) e × Shorter C (if looser then in_parentheses (W.bare e) else W.bare e) u
  placed_so level u e b (inl le) true looser = absurd (omega (arith, le, ltb-true (W.rank e) level looser))
  placed_so level u e b (inr h) true looser = (spells_in (λ ts. from_top L inner atom level ts e) (spells_left {H = atom} (spells_enclosed h.text)), h.short)
  placed_so level u e b fits false looser = (spells_in (λ ts. down L inner atom level (W.rank e) (ltb-false (W.rank e) level looser) ts e) b.text, b.short)

  place : (level : ℕ) (u : List Lexeme) (e : A) → Shown C W L inner atom level u e → IsPlaced C W (rung L inner atom level) level u e
  place level u e h = let (text, short) = placed_so level u e h.bare h.fits (nat_lt (W.rank e) level) refl in record { text = text; short = short }

  -- an operation at a level, between operands of this level and the next
  spells_joined : (level : ℕ) (table : Table O) (operand : Grammar Lexeme A) (xs ys : List Spelling) (e x : A) (s : List ℕ) (o : O) → Picks (operator table) (sign_token s) o
      → Spells (chain L.joined table operand) xs e → Spells operand ys x → Spells (chain L.joined table operand) (xs ++ sign_token s ∷ ys) (L.joined o e x)
  spells_joined level table operand xs ys e x s o picks f g = record {
    at = λ ts same. (
        let (u, rest, parts, front, back) = split_at ts xs (sign_token s ∷ ys) same in
        let (t, v, begun, first, last) = split_next rest (sign_token s) ys back in
        subst (λ l. chain L.joined table operand l (L.joined o e x)) (sym (parts ∙ ap (λ l. u ++ l) begun)) (chain_more L.joined table operand u v e x t o (f.at u front) (picks.at t first) (g.at v last)));
  }

  shown_operation : (level : ℕ) (table : Table O) → IsJoined C W L.joined table level → (operand : Grammar Lexeme A)
      → ((ts : List Lexeme) (e : A) → chain L.joined table operand ts e → rung L inner atom level ts e) → ((ts : List Lexeme) (e : A) → rung L inner atom level ts e → chain L.joined table operand ts e)
      → (u v : List Lexeme) (e x : A) (t : Lexeme) (o : O) → operator table t ≡ Some o → Shown C W L inner atom level u e → IsPlaced C W operand (level + 1) v x
      → Shown C W L inner atom level (u ++ t ∷ v) (L.joined o e x)
  shown_operation level table j operand into back u v e x t o takes h right =
      let left : IsPlaced C W (rung L inner atom level) level u e = place level u e h in
      let rank : W.rank (L.joined o e x) ≡ level = j.rank t o takes e x in
      let bare : W.bare (L.joined o e x) ≡ at_level W level e ++ sign_token (W.sign o) ∷ at_level W (level + 1) x = j.bare t o takes e x in
      let text : Spells (rung L inner atom level) (at_level W level e ++ sign_token (W.sign o) ∷ at_level W (level + 1) x) (L.joined o e x) =
      spells_in (λ ts. into ts (L.joined o e x)) (spells_joined level table operand (at_level W level e) (at_level W (level + 1) x) e x (W.sign o) o (j.picks t o takes) (spells_in (λ ts. back ts e) left.text) right.text) in
      let short : Shorter C (at_level W level e ++ sign_token (W.sign o) ∷ at_level W (level + 1) x) (u ++ t ∷ v) = shorter_joined (W.sign o) t (j.written t o takes) (j.read t o takes) left.short right.short in
      record {
        bare = record {
          text = subst (λ n. Spells (rung L inner atom n) (W.bare (L.joined o e x)) (L.joined o e x)) (sym rank) (subst (λ l. Spells (rung L inner atom level) l (L.joined o e x)) (sym bare) text);
          short = subst (λ l. Shorter C l (u ++ t ∷ v)) (sym bare) short;
        };
        fits = inl (omega (arith, rank));
      }

  -- operations behind a tree, from the left
  shown_operations : (level : ℕ) (table : Table O) → IsJoined C W L.joined table level → (operand : Grammar Lexeme A)
      → ((ts : List Lexeme) (e : A) → chain L.joined table operand ts e → rung L inner atom level ts e) → ((ts : List Lexeme) (e : A) → rung L inner atom level ts e → chain L.joined table operand ts e)
      → ((u : List Lexeme) (e : A) → operand u e → IsPlaced C W operand (level + 1) u e)
      → (list : List (O × A)) (u v : List Lexeme) (e : A) → Shown C W L inner atom level u e → many (operation table operand) v list → Shown C W L inner atom level (u ++ v) (from_left L.joined e list)
  shown_operations level table j operand into back each [] u v e h none = subst (λ l. Shown C W L inner atom level l e) (sym (ap (λ l. u ++ l) none ∙ append-nil u)) h
  shown_operations level table j operand into back each (x ∷ list) u v e h (a, b, parts, (c, d, o, further, (t, is-t, takes), (f, g, right, ends, reads, (nothing, made))), more) =
      let first : a ≡ t ∷ f = further ∙ ap (λ l. c ++ l) (ends ∙ ap (λ l. f ++ l) nothing ∙ append-nil f) ∙ ap (λ l. l ++ f) is-t in
      let here : Shown C W L inner atom level (u ++ t ∷ f) (L.joined o e right) = shown_operation level table j operand into back u f e right t o takes h (each f right reads) in
      let same : L.joined o e right ≡ L.joined x.0 e x.1 = ap (λ y. L.joined y.0 e y.1) (sym made) in
      let on : Shown C W L inner atom level (u ++ a) (L.joined x.0 e x.1) = subst (λ y. Shown C W L inner atom level (u ++ a) y) same (subst (λ l. Shown C W L inner atom level (u ++ l) (L.joined o e right)) (sym first) here) in
      let whole : (u ++ a) ++ b ≡ u ++ v = append_assoc u a b ∙ ap (λ l. u ++ l) (sym parts) in
      subst (λ l. Shown C W L inner atom level l (from_left L.joined (L.joined x.0 e x.1) list)) whole (shown_operations level table j operand into back each list (u ++ a) b (L.joined x.0 e x.1) on more)

  shown_chain : (level : ℕ) (table : Table O) → IsJoined C W L.joined table level → (operand : Grammar Lexeme A)
      → ((ts : List Lexeme) (e : A) → chain L.joined table operand ts e → rung L inner atom level ts e) → ((ts : List Lexeme) (e : A) → rung L inner atom level ts e → chain L.joined table operand ts e)
      → ((u : List Lexeme) (e : A) → operand u e → IsPlaced C W operand (level + 1) u e) → ((u : List Lexeme) (e : A) → operand u e → Shown C W L inner atom (level + 1) u e)
      → (u : List Lexeme) (e : A) → chain L.joined table operand u e → Shown C W L inner atom level u e
  shown_chain level table j operand into back each whole u e (a, b, head, parts, h, (c, d, list, further, more, (nothing, is-e))) =
      let rest : b ≡ c = further ∙ ap (λ l. c ++ l) nothing ∙ append-nil c in
      let first : Shown C W L inner atom (level + 1) a head = whole a head h in
      let begun : Shown C W L inner atom level a head = record { bare = first.bare; fits = weaker level a head first.fits } in
      let all : Shown C W L inner atom level (a ++ c) (from_left L.joined head list) = shown_operations level table j operand into back each list a c head begun more in
      subst (λ l. Shown C W L inner atom level l e) (sym (parts ∙ ap (λ l. a ++ l) rest)) (subst (λ y. Shown C W L inner atom level (a ++ c) y) (sym is-e) all)

  -- Level by level.

  module _ (known : IsInner C W L inner atom) where
    enclosed_or_not : (u ts : List Lexeme) (x y : Lexeme) (e : A) → is_sign (codes "(") x ≡ true → is_sign (codes ")") y ≡ true → u ≡ x ∷ (ts ++ y ∷ []) → inner ts e → (looser : Bool) → nat_lt (W.rank e) 3 ≡ looser → Shown C W L inner atom 3 u e
    enclosed_or_not u ts x y e opening closing parts h looser test =
        let (b, text) = known.inside ts e h in
        let short : Shorter C (W.bare e) u = subst (Shorter C (W.bare e)) (sym parts) (shorter_without x y opening closing b.short) in
        let kept : Shorter C (in_parentheses (W.bare e)) u = subst (Shorter C (in_parentheses (W.bare e))) (sym parts) (shorter_enclosed x y opening closing b.short) in
        record { bare = record { text = b.text; short = short }; fits = inr (record { text = text; short = kept }) }

    shown_3 : (u : List Lexeme) (e : A) → rung L inner atom 3 u e → Shown C W L inner atom 3 u e
    shown_3 u e (inl (a, b, _, parts, (x, is-x, opens), (ts, c, f, further, h, (d, g, _, ends, (y, is-y, closes), (nothing, is-e))))) =
        let (opening, _) = when_picks (is_sign (codes "(")) (λ _. tt) x _ opens in
        let (closing, _) = when_picks (is_sign (codes ")")) (λ _. tt) y _ closes in
        let last : c ≡ y ∷ [] = ends ∙ ap (λ l. d ++ l) nothing ∙ append-nil d ∙ is-y in
        let whole : u ≡ x ∷ (ts ++ y ∷ []) = parts ∙ ap (λ l. l ++ b) is-x ∙ ap (λ l. x ∷ l) (further ∙ ap (λ l. ts ++ l) last) in
        enclosed_or_not u ts x y e opening closing whole (subst (inner ts) (sym is-e) h) (nat_lt (W.rank e) 3) refl
    shown_3 u e (inr h) =
        let rank : W.rank e ≡ 3 = known.rank u e h in
        record {
          bare = record {
            text = subst (λ n. Spells (rung L inner atom n) (W.bare e) e) (sym rank) (spells_in (λ ts. inr) (known.text u e h));
            short = known.short u e h;
          };
          fits = inl (omega (arith, rank));
        }

    shown_2 : (u : List Lexeme) (e : A) → rung L inner atom 2 u e → Shown C W L inner atom 2 u e
    shown_2 u e (inl (a, b, _, parts, (t, is-t, takes), (c, d, f, further, h, (nothing, is-e)))) =
        let (sign_is, _) = when_picks (is_sign L.before) (λ _. tt) t _ takes in
        let whole : u ≡ t ∷ c = parts ∙ ap (λ l. l ++ b) is-t ∙ ap (λ l. t ∷ l) (further ∙ ap (λ l. c ++ l) nothing ∙ append-nil c) in
        let operand : IsPlaced C W (rung L inner atom 3) 3 c f = place 3 c f (shown_3 c f h) in
        let made : W.bare (L.make f) ≡ sign_token L.before ∷ at_level W 3 f = is.before.bare f in
        let rank : W.rank (L.make f) ≡ 2 = is.before.rank f in
        let text : Spells (rung L inner atom 2) (sign_token L.before ∷ at_level W 3 f) (L.make f) = spells_left (spells_next (picks_sign L.before) (spells_made L.make operand.text)) in
        let short : Shorter C (sign_token L.before ∷ at_level W 3 f) (t ∷ c) = shorter_prefixed L.before t is.before.written (is.before.read t sign_is) operand.short in
        let all : Shown C W L inner atom 2 (t ∷ c) (L.make f) = record {
          bare = record {
            text = subst (λ n. Spells (rung L inner atom n) (W.bare (L.make f)) (L.make f)) (sym rank) (subst (λ l. Spells (rung L inner atom 2) l (L.make f)) (sym made) text);
            short = subst (λ l. Shorter C l (t ∷ c)) (sym made) short;
          };
          fits = inl (omega (arith, rank));
        } in
        subst (λ l. Shown C W L inner atom 2 l e) (sym whole) (subst (λ y. Shown C W L inner atom 2 (t ∷ c) y) (sym is-e) all)
    shown_2 u e (inr h) = let top : Shown C W L inner atom 3 u e = shown_3 u e h in record { bare = top.bare; fits = weaker 2 u e top.fits }

    shown_1 : (u : List Lexeme) (e : A) → rung L inner atom 1 u e → Shown C W L inner atom 1 u e
    shown_1 = shown_chain 1 L.tight is.tight (rung L inner atom 2) (λ ts e h. h) (λ ts e h. h) (λ u e h. place 2 u e (shown_2 u e h)) shown_2

    -- each text of a tree, written again
    pub shown : (u : List Lexeme) (e : A) → rung L inner atom 0 u e → Shown C W L inner atom 0 u e
    shown = shown_chain 0 L.loose is.loose (rung L inner atom 1) (λ ts e h. h) (λ ts e h. h) (λ u e h. place 1 u e (shown_1 u e h)) shown_1

    -- without parentheses, it is a whole text again
    pub whole_again : (u : List Lexeme) (e : A) → rung L inner atom 0 u e → Spells (rung L inner atom 0) (W.bare e) e × Shorter C (W.bare e) u
    whole_again u e h = let s : Shown C W L inner atom 0 u e = shown u e h in (spells_in (λ ts. down L inner atom 0 (W.rank e) (omega arith) ts e) s.bare.text, s.bare.short)
