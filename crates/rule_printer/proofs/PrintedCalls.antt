-- Calls, and with them whole formulas, written again.
use Rattle.std.proofs.Common.{◌≡◌, ℕ, List, [], ◌∷◌, ◌++◌, map, Bool, true, false, ◌⊎◌, sym, ap, ◌∙◌, subst, inl, inr, codes, append-nil, append_assoc}
use Rattle.std.specs.List.{flat_map}
use Rattle.cube_lex.specs.Lexeme.{Lexeme}
use Rattle.cube_lex.specs.Written.{Spelling, spelling_of, sign_token, word_token}
use Rattle.grammar.specs.Grammar.{Grammar, one, both, either, many}
use Rattle.grammar.specs.Tokens.{is_sign_kind, is_word_kind, is_sign, capitals, sign}
use Rattle.grammar.proofs.Tokens.{when_picks}
use Rattle.expression_grammar.specs.declared.sort.Sort.TheVariants as sorts
use Rattle.expression_grammar.specs.declared.limits.Limits.{Limits}
use Rattle.expression_grammar.proofs.PrintedExpressions.{Includes, includes_both, includes_same, includes_either, includes_many, IsWriting, IsWrittenAgain, expression_again}
use Rattle.expression_grammar.proofs.PrintedLimits.{Counting, Fits, Shorter, IsWrittenSign, shorter_joined}
use Rattle.grammar.proofs.Spells.{split_at, none_spelled}
use Rattle.expression_grammar.proofs.PrintedTokens.{Spells, spells_both, spells_next, spells_left, spells_right, spells_done, picks_sign, split_next, is_written_sign}
use Rattle.grammar.specs.Lists.{listed, perhaps_listed}
use Rattle.rule_tree.specs.Formula.{rules_language, primary, formula, number, quoted, current, reference, stet, continue, first_argument, is_if, call}
use Rattle.rule_printer.specs.Spelled.{written, next_spelled, listed_spelled, tree_spelled}
use Rattle.rule_tree.specs.declared.counted.Counted.{Counted}
use Rattle.rule_tree.specs.declared.counted.RuleTextPlace.{RuleTextPlace}
use Rattle.rule_tree.specs.declared.tree.Tree.{Tree}
use Rattle.rule_tree.specs.declared.tree.Tree.TheVariants as trees
use Rattle.rule_printer.proofs.PrintedCounting.{IsPlace, formula_counting}
use Rattle.rule_printer.proofs.PrintedFormulas.{arguments_written, IsSimple, simple_number, simple_quoted, simple_current, simple_reference, simple_again, keyword}
use Rattle.rule_printer.proofs.PrintedOperators.{rules_writing, value_ladder, truth_ladder, compares}
use Rattle.rule_printer.proofs.PrintedPrimaries.{word_no_sign, inside_counting, fits_inside, fits_call, fits_empty_call}
use Rattle.rule_printer.proofs.PrintedTrees.{written_stet, written_continue, written_call}
use Rattle.rule_printer.proofs.PrintedWords.{picks_capitals, perhaps_again}

-- Each primary by more values and truths.

includes_listed : {A : Type 0} {F G F' G' : Grammar Lexeme A} → Includes F F' → Includes G G' → Includes (listed F G) (listed F' G')
includes_listed f g = includes_both f (λ first. includes_both (includes_many (includes_both includes_same (λ _. g))) (λ rest. includes_same))

includes_first : (b : Bool) (V T V' T' : Grammar Lexeme Tree) → Includes V V' → Includes T T' → Includes (first_argument b V T) (first_argument b V' T')
includes_first true V T V' T' v t = t
includes_first false V T V' T' v t = v

pub primary_includes : (V T V' T' : Grammar Lexeme Tree) → Includes V V' → Includes T T' → Includes (primary V T) (primary V' T')
primary_includes V T V' T' v t = includes_either includes_same (includes_either includes_same (includes_either includes_same (includes_either includes_same (includes_either includes_same (includes_either includes_same
    (includes_both includes_same (λ function. includes_both includes_same
    (λ _. includes_both (includes_either (includes_listed (includes_first (is_if function) V T V' T' v t) v) includes_same) (λ arguments. includes_same)))))))))

-- the parts of a call
record IsCall (V T : Grammar Lexeme Tree) (u : List Lexeme) (e : Tree) : Type 0 where
  word : Lexeme
  opening : Lexeme
  inner : List Lexeme
  closing : Lexeme
  function : List ℕ
  arguments : List Tree
  parts : u ≡ word ∷ opening ∷ (inner ++ closing ∷ [])
  kind : is_word_kind word.kind ≡ true
  capital : capitals word.piece ≡ function
  opens : is_sign (codes "(") opening ≡ true
  listed_so : perhaps_listed (first_argument (is_if function) V T) V inner arguments
  closes : is_sign (codes ")") closing ≡ true
  tree : e ≡ trees.Call function arguments

call_is : (V T : Grammar Lexeme Tree) (u : List Lexeme) (e : Tree) → call V T u e → IsCall V T u e
call_is V T u e (v, w, function, parts, (t, is-t, picks), (x, y, _, further, (s, is-s, takes-s), (a, b, arguments, more, h, (f, g, _, ends, (r, is-r, takes-r), (nothing, is-e))))) =
    let (kind, capital) = when_picks (λ (t : Lexeme). is_word_kind t.kind) (λ t. capitals t.piece) t function picks in
    let (opens, _) = when_picks (is_sign (codes "(")) (λ _. tt) s _ takes-s in
    let (closes, _) = when_picks (is_sign (codes ")")) (λ _. tt) r _ takes-r in
    let last : b ≡ r ∷ [] = ends ∙ ap (λ l. f ++ l) nothing ∙ append-nil f ∙ is-r in
    let inside : y ≡ a ++ r ∷ [] = more ∙ ap (λ l. a ++ l) last in
    let behind : w ≡ s ∷ (a ++ r ∷ []) = further ∙ ap (λ l. l ++ y) is-s ∙ ap (λ l. s ∷ l) inside in
    record {
      word = t;
      opening = s;
      inner = a;
      closing = r;
      function = function;
      arguments = arguments;
      parts = parts ∙ ap (λ l. l ++ w) is-t ∙ ap (λ l. t ∷ l) behind;
      kind = kind;
      capital = capital;
      opens = opens;
      listed_so = h;
      closes = closes;
      tree = is-e;
    }

call_tokens : List ℕ → List Tree → List Spelling
call_tokens function arguments = word_token function ∷ sign_token (codes "(") ∷ (listed_spelled tree_spelled arguments ++ sign_token (codes ")") ∷ [])

call_spelled : (e : Tree) (function : List ℕ) (arguments : List Tree) → e ≡ trees.Call function arguments → tree_spelled e ≡ call_tokens function arguments
unfolding call_tokens
call_spelled e function arguments is = ap tree_spelled is ∙ ap (λ w. w.tokens) (written_call function arguments) ∙ ap (λ l. word_token function ∷ sign_token (codes "(") ∷ (l ++ sign_token (codes ")") ∷ [])) (arguments_written arguments)

module _ (place : Limits → RuleTextPlace) (base : ℕ) (is : IsPlace place base) (c : Counted) where
  first_again : (V T : Grammar Lexeme Tree) → IsWrittenAgain (formula_counting place base is c) rules_writing V → IsWrittenAgain (formula_counting place base is c) rules_writing T → (b : Bool) → IsWrittenAgain (formula_counting place base is c) rules_writing (first_argument b V T)
  first_again V T v t true = t
  first_again V T v t false = v

  -- arguments behind the first
  further_short : (V : Grammar Lexeme Tree) → IsWrittenAgain (formula_counting place base is c) rules_writing V → (rest : List Tree) (xs : List Spelling) (u v : List Lexeme) → Shorter (inside_counting place base is c) xs u
      → many (both (one (sign (codes ","))) (λ _. V)) v rest → Shorter (inside_counting place base is c) (xs ++ flat_map (next_spelled tree_spelled) rest) (u ++ v)
  further_short V again [] xs u v short none = subst (λ l. Shorter (inside_counting place base is c) l (u ++ v)) (sym (append-nil xs)) (subst (λ l. Shorter (inside_counting place base is c) xs l) (sym (ap (λ l. u ++ l) none ∙ append-nil u)) short)
  further_short V again (e ∷ rest) xs u v short (a, b, parts, (f, g, _, ends, (t, is-t, takes), h), more) =
      let (comma, _) = when_picks (is_sign (codes ",")) (λ _. tt) t _ takes in
      let I : Counting = inside_counting place base is c in
      let item : Shorter I (tree_spelled e) g = record { at = λ ts same. fits_inside place base is c ts g ((again.short g e h).at ts same) } in
      let written_comma : IsWrittenSign (λ t. is_sign (codes ",") t ≡ true) (codes ",") = record { at = λ t e. is_written_sign (codes ",") t e } in
      let longer : Shorter I (xs ++ sign_token (codes ",") ∷ tree_spelled e) (u ++ t ∷ g) = shorter_joined (codes ",") t written_comma comma short item in
      let first : t ∷ g ≡ a = sym (ends ∙ ap (λ l. l ++ g) is-t) in
      let all : Shorter I ((xs ++ sign_token (codes ",") ∷ tree_spelled e) ++ flat_map (next_spelled tree_spelled) rest) ((u ++ t ∷ g) ++ b) = further_short V again rest (xs ++ sign_token (codes ",") ∷ tree_spelled e) (u ++ t ∷ g) b longer more in
      subst (λ l. Shorter I l (u ++ v)) (append_assoc xs (sign_token (codes ",") ∷ tree_spelled e) (flat_map (next_spelled tree_spelled) rest))
      (subst (λ l. Shorter I ((xs ++ sign_token (codes ",") ∷ tree_spelled e) ++ flat_map (next_spelled tree_spelled) rest) l) (append_assoc u (t ∷ g) b ∙ ap (λ l. u ++ (l ++ b)) first ∙ ap (λ l. u ++ l) (sym parts)) all)

  listed_short : (F V : Grammar Lexeme Tree) → IsWrittenAgain (formula_counting place base is c) rules_writing F → IsWrittenAgain (formula_counting place base is c) rules_writing V → (u : List Lexeme) (list : List Tree) → listed F V u list
      → Shorter (inside_counting place base is c) (listed_spelled tree_spelled list) u
  listed_short F V first again u list (v, w, e, parts, h, (x, y, rest, further, more, (nothing, is-list))) =
      let I : Counting = inside_counting place base is c in
      let begun : Shorter I (tree_spelled e) v = record { at = λ ts same. fits_inside place base is c ts v ((first.short v e h).at ts same) } in
      let whole : v ++ x ≡ u = sym (parts ∙ ap (λ l. v ++ l) (further ∙ ap (λ l. x ++ l) nothing ∙ append-nil x)) in
      subst (λ l. Shorter I (listed_spelled tree_spelled list) l) whole (subst (λ l. Shorter I (listed_spelled tree_spelled l) (v ++ x)) (sym is-list) (further_short V again rest (tree_spelled e) v x begun more))

  -- the parts of a written call
  call_short : (function : List ℕ) (xs : List Spelling) (inner : List Lexeme) (w x y : Lexeme) → is_word_kind w.kind ≡ true → is_sign (codes "(") x ≡ true → is_sign (codes ")") y ≡ true
      → ((xs ≡ []) × (inner ≡ [])) ⊎ Shorter (inside_counting place base is c) xs inner
      → Shorter (formula_counting place base is c) (word_token function ∷ sign_token (codes "(") ∷ (xs ++ sign_token (codes ")") ∷ [])) (w ∷ x ∷ (inner ++ y ∷ []))
  call_short function xs inner w x y kind opens closes short = record {
    at = λ ts same. (
        let (v, rest, is-ts, v-is, behind) = split_next ts (word_token function) (sign_token (codes "(") ∷ (xs ++ sign_token (codes ")") ∷ [])) same in
        let (s, more, is-rest, s-is, further) = split_next rest (sign_token (codes "(")) (xs ++ sign_token (codes ")") ∷ []) behind in
        let (a, last, parts, front, ends) = split_at more xs (sign_token (codes ")") ∷ []) further in
        let (t, none, is-last, t-is, nothing) = split_next last (sign_token (codes ")")) [] ends in
        let whole : ts ≡ v ∷ s ∷ (a ++ t ∷ []) = is-ts ∙ ap (λ l. v ∷ l) (is-rest ∙ ap (λ l. s ∷ l) (parts ∙ ap (λ l. a ++ l) (is-last ∙ ap (λ l. t ∷ l) (none_spelled none nothing)))) in
        subst (λ l. Fits (formula_counting place base is c) l (w ∷ x ∷ (inner ++ y ∷ []))) (sym whole)
        (fits_so a v s t front (word_no_sign v.kind (ap (λ k. is_word_kind k.kind) v-is)) (is_written_sign (codes "(") s s-is) (is_written_sign (codes ")") t t-is) short));
  } where
    fits_so : (a : List Lexeme) (v s t : Lexeme) → map spelling_of a ≡ xs → is_sign_kind v.kind ≡ false → is_sign (codes "(") s ≡ true → is_sign (codes ")") t ≡ true → ((xs ≡ []) × (inner ≡ [])) ⊎ Shorter (inside_counting place base is c) xs inner
        → Fits (formula_counting place base is c) (v ∷ s ∷ (a ++ t ∷ [])) (w ∷ x ∷ (inner ++ y ∷ []))
    fits_so a v s t front v-kind s-is t-is (inl (no_tokens, no_inner)) =
        let none : a ≡ [] = none_spelled a (front ∙ no_tokens) in
        subst (λ l. Fits (formula_counting place base is c) (v ∷ s ∷ (l ++ t ∷ [])) (w ∷ x ∷ (inner ++ y ∷ []))) (sym none)
        (subst (λ l. Fits (formula_counting place base is c) (v ∷ s ∷ t ∷ []) (w ∷ x ∷ (l ++ y ∷ []))) (sym no_inner) (fits_empty_call place base is c v s t w x y v-kind s-is t-is (word_no_sign w.kind kind) opens closes))
    fits_so a v s t front v-kind s-is t-is (inr shorter) = fits_call place base is c a inner v s t w x y v-kind s-is t-is (word_no_sign w.kind kind) opens closes (shorter.at a front)

  perhaps_short : (F V : Grammar Lexeme Tree) → IsWrittenAgain (formula_counting place base is c) rules_writing F → IsWrittenAgain (formula_counting place base is c) rules_writing V → (u : List Lexeme) (list : List Tree) → perhaps_listed F V u list
      → ((listed_spelled tree_spelled list ≡ []) × (u ≡ [])) ⊎ Shorter (inside_counting place base is c) (listed_spelled tree_spelled list) u
  perhaps_short F V first again u list (inl h) = inr (listed_short F V first again u list h)
  perhaps_short F V first again u list (inr (nothing, is-list)) = inl (ap (listed_spelled tree_spelled) is-list, nothing)

  call_again : (V T : Grammar Lexeme Tree) → IsWrittenAgain (formula_counting place base is c) rules_writing V → IsWrittenAgain (formula_counting place base is c) rules_writing T → IsWrittenAgain (formula_counting place base is c) rules_writing (call V T)
  unfolding call_tokens
  call_again V T v t = record {
    text = λ u e h. (
        let k : IsCall V T u e = call_is V T u e h in
        let first : IsWrittenAgain (formula_counting place base is c) rules_writing (first_argument (is_if k.function) V T) = first_again V T v t (is_if k.function) in
        subst (λ y. Spells (call V T) (tree_spelled e) y) (sym k.tree) (subst (λ l. Spells (call V T) l (trees.Call k.function k.arguments)) (sym (call_spelled e k.function k.arguments k.tree))
        (spells_next (picks_capitals k.word.piece k.function k.capital) (spells_next (picks_sign (codes "("))
        (spells_both (perhaps_again (first_argument (is_if k.function) V T) V tree_spelled first.text v.text k.inner k.arguments k.listed_so)
        (spells_next (picks_sign (codes ")")) (spells_done (trees.Call k.function k.arguments))))))));
    short = λ u e h. (
        let k : IsCall V T u e = call_is V T u e h in
        let first : IsWrittenAgain (formula_counting place base is c) rules_writing (first_argument (is_if k.function) V T) = first_again V T v t (is_if k.function) in
        subst (λ l. Shorter (formula_counting place base is c) (tree_spelled e) l) (sym k.parts) (subst (λ l. Shorter (formula_counting place base is c) l (k.word ∷ k.opening ∷ (k.inner ++ k.closing ∷ []))) (sym (call_spelled e k.function k.arguments k.tree))
        (call_short k.function (listed_spelled tree_spelled k.arguments) k.inner k.word k.opening k.closing k.kind k.opens k.closes (perhaps_short (first_argument (is_if k.function) V T) V first v k.inner k.arguments k.listed_so))));
  }

  again_or : (G H : Grammar Lexeme Tree) → IsWrittenAgain (formula_counting place base is c) rules_writing G → IsWrittenAgain (formula_counting place base is c) rules_writing H → IsWrittenAgain (formula_counting place base is c) rules_writing (either G H)
  again_or G H g h = record { text = text; short = short } where
    text : (u : List Lexeme) (e : Tree) → either G H u e → Spells (either G H) (tree_spelled e) e
    text u e (inl x) = spells_left (g.text u e x)
    text u e (inr x) = spells_right (h.text u e x)

    short : (u : List Lexeme) (e : Tree) → either G H u e → Shorter (formula_counting place base is c) (tree_spelled e) u
    short u e (inl x) = g.short u e x
    short u e (inr x) = h.short u e x

  simple_stet : IsSimple place base is c stet
  simple_stet = keyword place base is c (codes "STET") trees.Stet (ap (λ w. w.rank) written_stet) (ap (λ w. w.tokens) written_stet)

  simple_continue : IsSimple place base is c continue
  simple_continue = keyword place base is c (codes "CONTINUE") trees.Continue (ap (λ w. w.rank) written_continue) (ap (λ w. w.tokens) written_continue)

  primary_rank : (V T : Grammar Lexeme Tree) (u : List Lexeme) (e : Tree) → primary V T u e → (written e).rank ≡ 3
  primary_rank V T u e (inl h) = (simple_number place base is c).rank u e h
  primary_rank V T u e (inr (inl h)) = (simple_quoted place base is c).rank u e h
  primary_rank V T u e (inr (inr (inl h))) = (simple_current place base is c).rank u e h
  primary_rank V T u e (inr (inr (inr (inl h)))) = (simple_reference place base is c).rank u e h
  primary_rank V T u e (inr (inr (inr (inr (inl h))))) = simple_stet.rank u e h
  primary_rank V T u e (inr (inr (inr (inr (inr (inl h)))))) = simple_continue.rank u e h
  primary_rank V T u e (inr (inr (inr (inr (inr (inr h)))))) =
      let k : IsCall V T u e = call_is V T u e h in
      ap (λ y. (written y).rank) k.tree ∙ ap (λ w. w.rank) (written_call k.function k.arguments)

  primary_again : (V T : Grammar Lexeme Tree) → IsWrittenAgain (formula_counting place base is c) rules_writing V → IsWrittenAgain (formula_counting place base is c) rules_writing T → IsWrittenAgain (formula_counting place base is c) rules_writing (primary V T)
  primary_again V T v t =
      again_or number _ (simple_again place base is c number (simple_number place base is c)) (again_or quoted _ (simple_again place base is c quoted (simple_quoted place base is c))
      (again_or current _ (simple_again place base is c current (simple_current place base is c)) (again_or reference _ (simple_again place base is c reference (simple_reference place base is c))
      (again_or stet _ (simple_again place base is c stet simple_stet) (again_or continue _ (simple_again place base is c continue simple_continue) (call_again V T v t))))))

  rules_are_written : IsWriting (formula_counting place base is c) rules_writing rules_language primary
  rules_are_written = record {
    values = value_ladder place base is c;
    truths = truth_ladder place base is c;
    compared = compares place base is c;
    primaries = record { includes = primary_includes; rank = primary_rank; again = primary_again };
  }

  -- whole formulas
  pub formula_again : IsWrittenAgain (formula_counting place base is c) rules_writing formula
  formula_again = expression_again (formula_counting place base is c) rules_writing rules_language primary rules_are_written sorts.Value
