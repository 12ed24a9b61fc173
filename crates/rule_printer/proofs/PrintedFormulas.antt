-- Each whole formula, written again with the fewest parentheses, is read as the same tree, and within the same limits.
use Rattle.std.proofs.Common.{◌≡◌, ℕ, List, [], ◌∷◌, ◌++◌, map, Bool, true, false, Option, Some, ◌&&◌, if◌then◌else◌, refl, sym, ap, ◌∙◌, subst, inl, inr, codes, append-nil}
use Rattle.std.specs.List.{flat_map}
use Rattle.cube_lex.specs.Lexeme.{Lexeme}
use Rattle.cube_lex.specs.Positions.{position_of}
use Rattle.cube_lex.specs.Quoted.{unquoted}
use Rattle.cube_lex.specs.Written.{Spelling, sign_token, text_token, word_token}
use Rattle.dim_name.specs.Name.{is_name}
use Rattle.grammar.specs.Grammar.{Grammar, done, one, both, either}
use Rattle.grammar.specs.Tokens.{is_sign_kind, is_word_kind, is_text_kind, is_word, is_sign, word, money, text, name}
use Rattle.grammar.proofs.Tokens.{when_picks, and_is}
use Rattle.expression_grammar.specs.declared.limits.Limits.{Limits}
use Rattle.expression_grammar.proofs.PrintedExpressions.{IsWrittenAgain}
use Rattle.expression_grammar.proofs.PrintedLimits.{Shorter}
use Rattle.expression_grammar.proofs.PrintedTokens.{Spells, Picks, spells_one, spells_next, spells_made, spells_left, spells_right, spells_done, picks_sign}
use Rattle.rule_tree.specs.Formula.{number, quoted, word_name, current, reference}
use Rattle.rule_printer.specs.Spelled.{Written, written, is_word_text, next_spelled, listed_spelled, tree_spelled}
use Rattle.rule_tree.specs.declared.counted.Counted.{Counted}
use Rattle.rule_tree.specs.declared.counted.RuleTextPlace.{RuleTextPlace}
use Rattle.rule_tree.specs.declared.tree.Tree.{Tree}
use Rattle.rule_tree.specs.declared.tree.Tree.TheVariants as trees
use Rattle.rule_printer.proofs.PrintedBrackets.{bracket_again, bracket_is}
use Rattle.rule_printer.proofs.PrintedCounting.{IsPlace, formula_counting}
use Rattle.rule_printer.proofs.PrintedOperators.{rules_writing}
use Rattle.rule_printer.proofs.PrintedPrimaries.{word_no_sign, text_no_sign, number_no_sign, Once, fits_once, once_word, once_marked, once_bracketed}
use Rattle.rule_printer.proofs.PrintedTrees.{written_number, written_text, written_current, written_bracket}
use Rattle.rule_printer.proofs.PrintedWords.{spells_word, picks_text, picks_name, picks_word_name, money_picks, picks_money}

-- the arguments of a call, written
pub arguments_written : (list : List Tree) → listed_spelled (λ (w : Written). w.tokens) (map written list) ≡ listed_spelled tree_spelled list
arguments_written [] = refl
arguments_written (first ∷ rest) = ap (λ l. (written first).tokens ++ l) (further rest) where
  further : (list : List Tree) → flat_map (next_spelled (λ (w : Written). w.tokens)) (map written list) ≡ flat_map (next_spelled tree_spelled) list
  further [] = refl
  further (e ∷ list) = ap (λ l. (sign_token (codes ",") ∷ (written e).tokens) ++ l) (further list)

-- Primaries with nothing counted inside them.

module _ (place : Limits → RuleTextPlace) (base : ℕ) (is : IsPlace place base) (c : Counted) where
  pub record IsSimple (G : Grammar Lexeme Tree) : Type 0 where
    pub rank : (u : List Lexeme) (e : Tree) → G u e → (written e).rank ≡ 3
    pub text : (u : List Lexeme) (e : Tree) → G u e → Spells G (tree_spelled e) e
    pub once : (u : List Lexeme) (e : Tree) → G u e → Once place base is c u

  -- a tree that is made of one token
  one_token : {A : Type 0} (pick : Lexeme → Option A) (make : A → Tree) (token : A → Spelling) → ((a : A) → (written (make a)).rank ≡ 3) → ((a : A) → tree_spelled (make a) ≡ token a ∷ []) → ((t : Lexeme) (a : A) → pick t ≡ Some a → (is_sign_kind t.kind ≡ false) × Picks pick (token a) a)
      → IsSimple (both (one pick) (λ a. done (make a)))
  one_token pick make token rank tokens takes = record {
    rank = λ u e (v, w, a, parts, (t, is-t, picks), (nothing, is-e)). ap (λ y. (written y).rank) is-e ∙ rank a;
    text = λ u e (v, w, a, parts, (t, is-t, picks), (nothing, is-e)).
        subst (λ y. Spells (both (one pick) (λ a. done (make a))) (tree_spelled y) y) (sym is-e)
        (subst (λ l. Spells (both (one pick) (λ a. done (make a))) l (make a)) (sym (tokens a)) (spells_made make (spells_one (takes t a picks).1)));
    once = λ u e (v, w, a, parts, (t, is-t, picks), (nothing, is-e)).
        subst (Once place base is c) (sym (parts ∙ ap (λ l. v ++ l) nothing ∙ append-nil v ∙ is-t)) (once_word place base is c t (takes t a picks).0);
  }

  pub simple_number : IsSimple number
  simple_number = one_token money (λ z. trees.Number z) _ (λ z. ap (λ w. w.rank) (written_number z)) (λ z. ap (λ w. w.tokens) (written_number z))
      (λ t z picks. (let (kind, within, _) = money_picks t z picks in (number_no_sign t.kind kind, picks_money z within)))

  pub simple_quoted : IsSimple quoted
  simple_quoted = one_token text (λ b. trees.Text b) _ (λ b. ap (λ w. w.rank) (written_text b)) (λ b. ap (λ w. w.tokens) (written_text b))
      (λ t b picks. (let (kind, _) = when_picks (λ (t : Lexeme). is_text_kind t.kind) (λ t. unquoted t.piece) t b picks in (text_no_sign t.kind kind, picks_text b)))

  pub keyword : (w : List ℕ) (tree : Tree) → (written tree).rank ≡ 3 → tree_spelled tree ≡ word_token w ∷ [] → IsSimple (both (one (word w)) (λ _. done tree))
  keyword w tree rank tokens = record {
    rank = λ u e (v, x, a, parts, h, (nothing, is-e)). ap (λ y. (written y).rank) is-e ∙ rank;
    text = λ u e (v, x, a, parts, h, (nothing, is-e)).
        subst (λ y. Spells (both (one (word w)) (λ _. done tree)) (tree_spelled y) y) (sym is-e)
        (subst (λ l. Spells (both (one (word w)) (λ _. done tree)) l tree) (sym tokens) (spells_word w (λ _. spells_done tree)));
    once = λ u e (v, x, a, parts, (t, is-t, takes), (nothing, is-e)). (
        let (word_is, _) = when_picks (is_word w) position_of t a takes in
        let (kind, _) = and_is (is_word_kind t.kind) _ word_is in
        subst (Once place base is c) (sym (parts ∙ ap (λ l. v ++ l) nothing ∙ append-nil v ∙ is-t)) (once_word place base is c t (word_no_sign t.kind kind)));
  }

  pub simple_reference : IsSimple reference
  simple_reference = record {
    rank = λ u e (v, x, list, parts, h, (nothing, is-e)). ap (λ y. (written y).rank) is-e ∙ ap (λ w. w.rank) (written_bracket list);
    text = λ u e (v, x, list, parts, h, (nothing, is-e)).
        subst (λ y. Spells reference (tree_spelled y) y) (sym is-e)
        (subst (λ l. Spells reference l (trees.Bracket list)) (sym (ap (λ w. w.tokens) (written_bracket list))) (spells_made (λ l. trees.Bracket l) (bracket_again v list h)));
    once = λ u e (v, x, list, parts, h, (nothing, is-e)).
        subst (Once place base is c) (sym (parts ∙ ap (λ l. v ++ l) nothing ∙ append-nil v)) (once_bracketed place base is c v (bracket_is v list h));
  }

  -- the dimension behind a `!`
  dimension_named : (u : List Lexeme) (dim : List ℕ) → either (one word_name) (one name) u dim → (is_name dim ≡ true) × ((t : Lexeme) × (u ≡ t ∷ []) × (is_sign_kind t.kind ≡ false))
  dimension_named u dim (inl (t, is-t, picks)) =
      let (both_hold, same) = when_picks (λ (t : Lexeme). is_word_kind t.kind && is_name t.piece) (λ t. t.piece) t dim picks in
      let (kind, named) = and_is (is_word_kind t.kind) (is_name t.piece) both_hold in
      (ap is_name (sym same) ∙ named, (t, is-t, word_no_sign t.kind kind))
  dimension_named u dim (inr (t, is-t, picks)) =
      let (both_hold, same) = when_picks (λ (t : Lexeme). is_text_kind t.kind && is_name (unquoted t.piece)) (λ t. unquoted t.piece) t dim picks in
      let (kind, named) = and_is (is_text_kind t.kind) (is_name (unquoted t.piece)) both_hold in
      (ap is_name (sym same) ∙ named, (t, is-t, text_no_sign t.kind kind))

  current_spells : (dim : List ℕ) → is_name dim ≡ true → (b : Bool) → Spells (either (one word_name) (one name)) ((if b then word_token dim else text_token dim) ∷ []) dim
  current_spells dim named true = spells_left (spells_one (picks_word_name dim named))
  current_spells dim named false = spells_right (spells_one (picks_name dim named))

  pub simple_current : IsSimple current
  simple_current = record {
    rank = λ u e (v, x, _, parts, h, (y, z, dim, further, g, (nothing, is-e))). ap (λ y. (written y).rank) is-e ∙ ap (λ w. w.rank) (written_current dim);
    text = λ u e (v, x, _, parts, h, (y, z, dim, further, g, (nothing, is-e))).
        subst (λ y. Spells current (tree_spelled y) y) (sym is-e)
        (subst (λ l. Spells current l (trees.Current dim)) (sym (ap (λ w. w.tokens) (written_current dim)))
        (spells_next (picks_sign (codes "!")) (spells_made (λ d. trees.Current d) (current_spells dim (dimension_named y dim g).0 (is_word_text dim)))));
    once = λ u e (v, x, a, parts, (s, is-s, takes), (y, z, dim, further, g, (nothing, is-e))). (
        let (mark, _) = when_picks (is_sign (codes "!")) (λ _. tt) s a takes in
        let (t, is-t, kind) = (dimension_named y dim g).1 in
        let rest : x ≡ t ∷ [] = further ∙ ap (λ l. y ++ l) nothing ∙ append-nil y ∙ is-t in
        subst (Once place base is c) (sym (parts ∙ ap (λ l. l ++ x) is-s ∙ ap (λ l. s ∷ l) rest)) (once_marked place base is c s t mark kind));
  }

  pub simple_or : (G H : Grammar Lexeme Tree) → IsSimple G → IsSimple H → IsSimple (either G H)
  simple_or G H g h = record { rank = rank; text = text; once = once } where
    rank : (u : List Lexeme) (e : Tree) → either G H u e → (written e).rank ≡ 3
    rank u e (inl x) = g.rank u e x
    rank u e (inr x) = h.rank u e x

    text : (u : List Lexeme) (e : Tree) → either G H u e → Spells (either G H) (tree_spelled e) e
    text u e (inl x) = spells_left (g.text u e x)
    text u e (inr x) = spells_right (h.text u e x)

    once : (u : List Lexeme) (e : Tree) → either G H u e → Once place base is c u
    once u e (inl x) = g.once u e x
    once u e (inr x) = h.once u e x

  simple_short : (G : Grammar Lexeme Tree) → IsSimple G → (u : List Lexeme) (e : Tree) → G u e → Shorter (formula_counting place base is c) (tree_spelled e) u
  simple_short G g u e h = record { at = λ ts same. fits_once place base is c ts u (g.once ts e ((g.text u e h).at ts same)) (g.once u e h) }

  pub simple_again : (G : Grammar Lexeme Tree) → IsSimple G → IsWrittenAgain (formula_counting place base is c) rules_writing G
  simple_again G g = record { text = g.text; short = simple_short G g }
