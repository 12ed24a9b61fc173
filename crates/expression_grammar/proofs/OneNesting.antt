-- The readers of an expression are exact, if those of the expressions inside it are.
use Rattle.std.proofs.Common.{◌≡◌, List, [], ◌++◌, Bool, true, false, ◌&&◌, not, codes, refl, sym, ◌∙◌, ap, subst, inl, inr, append-nil}
use Rattle.std.proofs.lemmas.Bool.{not-true}
use Rattle.cube_lex.specs.Lexeme.{Lexeme}
use Rattle.grammar.specs.Grammar.{Grammar, done, one, both, either}
use Rattle.grammar.specs.Tokens.{sign, is_sign}
use Rattle.grammar.specs.Watch.{each_token}
use Rattle.grammar.proofs.Exact.{Exact, Not, exact_gives, exact_then, exact_made, exact_by, exact_before}
use Rattle.grammar.proofs.Begins.{Begins, begins_both, exact_or, exact_before_next}
use Rattle.grammar.proofs.Tokens.{and_is, exact_sign, sign_begins}
use Rattle.expression_grammar.specs.Language.{Language}
use Rattle.expression_grammar.specs.Expression.{Primaries}
use Rattle.expression_grammar.specs.Readers.Reading.{Scanner, Reads, Sorted, PrimaryReader, inside_parentheses, tree_of, read_primary, read_signed, read_product, read_sum, read_compare, read_opposite, read_not, read_and, read_or, only, read_level}
use Rattle.expression_grammar.specs.declared.sort.Sort.{Sort}
use Rattle.expression_grammar.specs.declared.sort.Sort.TheVariants as sorts
use Rattle.expression_grammar.specs.declared.sort.Want.{Want}
use Rattle.expression_grammar.specs.declared.sort.Want.TheVariants as wants
use Rattle.expression_grammar.proofs.Languages.{is_sign_of, is_filled, is_apart, on_primary, on_product, on_sum, on_comparison, on_and, on_expression, goes_on, IsLanguage}
use Rattle.expression_grammar.proofs.Operators.{sign_tells}
use Rattle.expression_grammar.proofs.Levels.{Sorts, fits, sorted, exact_of_sort, exact_chain, exact_prefixed}
use Rattle.expression_grammar.proofs.Parts.{operands, signed, products, sums, comparisons, opposites, conjunctions, disjunctions, operands_begin, comparisons_begin}
use Rattle.expression_grammar.proofs.Comparing.{exact_compare}

into_plain : {A : Type 0} (G : Grammar Lexeme A) (u : List Lexeme) (a : A) → both G (λ e. done e) u a → G u a
into_plain G u a (v, w, e, parts, h, (nothing, is)) = subst (G u) (sym is) (subst (λ z. G z e) (sym (parts ∙ ap (λ z. v ++ z) nothing ∙ append-nil v)) h)

back_plain : {A : Type 0} (G : Grammar Lexeme A) (u : List Lexeme) (a : A) → G u a → both G (λ e. done e) u a
back_plain G u a h = (u, [], a, sym (append-nil u), h, (refl, refl))

-- the tree of an expression of one sort
pub exact_tree : {A R C : Type 0} (scan : Scanner R C) (F H : Sorts A) (s : Sort) {P : Reads R C (A × Sort)} {S : List Lexeme → Type 0} → Exact (each_token scan) (sorted F (only s)) (sorted H (only s)) P S → Exact (each_token scan) (F s) (H s) (tree_of P) S
exact_tree scan F H s e = exact_by (into_plain (F s)) (back_plain (H s)) (exact_of_sort F H (λ e. e) s e)

value_inside : (want : Want) → fits (inside_parentheses want) sorts.Value
value_inside wants.Value = tt
value_inside wants.Truth = tt
value_inside wants.Any = tt

-- an expression in parentheses, or a primary
module _ {A O : Type 0} (L : Language A O) (primary : Primaries A) (F : Sorts A) (want : Want) where
  abbrev in_parentheses : Grammar Lexeme (A × Sort)
  in_parentheses = both (one (sign (codes "("))) (λ _. both (sorted F (inside_parentheses want)) (λ x. both (one (sign (codes ")"))) (λ _. done x)))

  abbrev plain : Grammar Lexeme (A × Sort)
  plain = both (primary (F sorts.Value) (F sorts.Truth)) (λ e. done (e, sorts.Value))

  abbrev wanted : List Lexeme → A × Sort → Type 0
  wanted = sorted (operands L primary F) (inside_parentheses want)

  into_operand : (u : List Lexeme) (x : A × Sort) → either in_parentheses plain u x → wanted u x
  into_operand u x (inl (v, w, z, parts, h, (a, b, (e, sorts.Value), more, (fit, g), (c, d, y, last, k, (nothing, is))))) = subst (wanted u) (sym is) (fit, inl (v, w, z, parts, h, (a, b, e, more, g, (c, d, y, last, k, (nothing, refl)))))
  into_operand u x (inl (v, w, z, parts, h, (a, b, (e, sorts.Truth), more, (fit, g), (c, d, y, last, k, (nothing, is))))) = subst (wanted u) (sym is) (fit, (v, w, z, parts, h, (a, b, e, more, g, (c, d, y, last, k, (nothing, refl)))))
  into_operand u x (inr (v, w, e, parts, h, (nothing, is))) = subst (wanted u) (sym is) (value_inside want, inr (subst (λ z. primary (F sorts.Value) (F sorts.Truth) z e) (sym (parts ∙ ap (λ z. v ++ z) nothing ∙ append-nil v)) h))

  back_operand : (u : List Lexeme) (x : A × Sort) → wanted u x → either in_parentheses plain u x
  back_operand u (e, sorts.Value) (fit, inl (v, w, z, parts, h, (a, b, f, more, g, (c, d, y, last, k, (nothing, is))))) = inl (v, w, z, parts, h, (a, b, (f, sorts.Value), more, (fit, g), (c, d, y, last, k, (nothing, ap (λ r. (r, sorts.Value)) is))))
  back_operand u (e, sorts.Value) (fit, inr h) = inr (u, [], e, sym (append-nil u), h, (refl, refl))
  back_operand u (e, sorts.Truth) (fit, (v, w, z, parts, h, (a, b, f, more, g, (c, d, y, last, k, (nothing, is))))) = inl (v, w, z, parts, h, (a, b, (f, sorts.Truth), more, (fit, g), (c, d, y, last, k, (nothing, ap (λ r. (r, sorts.Truth)) is))))

-- where no truth may stand, a sign before truths changes nothing
into_value : {A O : Type 0} (L : Language A O) (primary : Primaries A) (F : Sorts A) (u : List Lexeme) (x : A × Sort) → sorted (comparisons L primary F) wants.Value u x → sorted (opposites L primary F) wants.Value u x
into_value L primary F u (e, sorts.Value) h = h
into_value L primary F u (e, sorts.Truth) h = absurd h.0

back_value : {A O : Type 0} (L : Language A O) (primary : Primaries A) (F : Sorts A) (u : List Lexeme) (x : A × Sort) → sorted (opposites L primary F) wants.Value u x → sorted (comparisons L primary F) wants.Value u x
back_value L primary F u (e, sorts.Value) h = h
back_value L primary F u (e, sorts.Truth) h = absurd h.0

module _ {A O R C : Type 0} {scan : Scanner R C} {L : Language A O} {primary : Primaries A} {read : PrimaryReader R C A} (l : IsLanguage scan L primary read) where
  -- the tables, level by level
  record Tables : Type 0 where
    product : is_filled L.product ≡ true
    sum : is_filled L.sum ≡ true
    relation : is_filled L.relation ≡ true
    and : is_filled L.and ≡ true
    or : is_filled L.or ≡ true
    product_apart : is_apart on_primary L.product ≡ true
    sum_apart : is_apart (on_product L) L.sum ≡ true
    relation_apart : is_apart (on_sum L) L.relation ≡ true
    and_apart : is_apart (on_comparison L) L.and ≡ true
    or_apart : is_apart (on_and L) L.or ≡ true
    closed : on_expression L (codes ")") ≡ false

  tables : Tables
  tables =
      let (product, f1) = and_is (is_filled L.product) (is_filled L.sum && (is_filled L.relation && (is_filled L.and && is_filled L.or))) l.filled in
      let (sum, f2) = and_is (is_filled L.sum) (is_filled L.relation && (is_filled L.and && is_filled L.or)) f1 in
      let (relation, f3) = and_is (is_filled L.relation) (is_filled L.and && is_filled L.or) f2 in
      let (and, or) = and_is (is_filled L.and) (is_filled L.or) f3 in
      let closes : Bool = not (on_expression L (codes ")")) in
      let (product_apart, a1) = and_is (is_apart on_primary L.product) (is_apart (on_product L) L.sum && (is_apart (on_sum L) L.relation && (is_apart (on_comparison L) L.and && (is_apart (on_and L) L.or && closes)))) l.apart in
      let (sum_apart, a2) = and_is (is_apart (on_product L) L.sum) (is_apart (on_sum L) L.relation && (is_apart (on_comparison L) L.and && (is_apart (on_and L) L.or && closes))) a1 in
      let (relation_apart, a3) = and_is (is_apart (on_sum L) L.relation) (is_apart (on_comparison L) L.and && (is_apart (on_and L) L.or && closes)) a2 in
      let (and_apart, a4) = and_is (is_apart (on_comparison L) L.and) (is_apart (on_and L) L.or && closes) a3 in
      let (or_apart, a5) = and_is (is_apart (on_and L) L.or) closes a4 in
      record { product = product; sum = sum; relation = relation; and = and; or = or; product_apart = product_apart; sum_apart = sum_apart; relation_apart = relation_apart; and_apart = and_apart; or_apart = or_apart; closed = not-true (on_expression L (codes ")")) a5 }

  pub relation_filled : is_filled L.relation ≡ true
  relation_filled = tables.relation

  module _ (F H : Sorts A) (no_closing : (sort : Sort) → Begins (H sort) (is_sign (codes ")")) false) (inner : Sorted R C A) (exact : (want : Want) → Exact (each_token scan) (sorted F want) (sorted H want) (inner want) (Not (goes_on L))) where
    closing : Begins (one (sign (codes ")"))) (goes_on L) false
    closing = subst (Begins (one (sign (codes ")"))) (goes_on L)) tables.closed (sign_tells (on_expression L) (codes ")"))

    operand_exact : (want : Want) → Exact (each_token scan) (sorted (operands L primary F) (inside_parentheses want)) (sorted (operands L primary H) (inside_parentheses want)) (read_primary scan read inner want) (Not (is_sign_of on_primary))
    unfolding read_primary
    operand_exact want = exact_by (into_operand L primary F want) (back_operand L primary H want)
        (exact_or (is_sign (codes "(")) (begins_both (sign_begins (codes "(") (codes "("))) (begins_both (l.no_parenthesis (H sorts.Value) (H sorts.Truth)))
        (exact_before {S' = Not (is_sign_of on_primary)} (λ _ _. tt) (exact_then (exact_sign scan (codes "(")) (λ _. exact_before_next (exact (inside_parentheses want)) (λ x. exact_then (exact_sign scan (codes ")")) (λ _. exact_gives (each_token scan) x)) (λ x. begins_both closing))))
        (exact_made (λ e. (e, sorts.Value)) (l.exact (no_closing sorts.Value) (no_closing sorts.Truth) (exact_tree scan F H sorts.Value (exact wants.Value)) (exact_tree scan F H sorts.Truth (exact wants.Truth)))))

    signed_exact : (want : Want) → Exact (each_token scan) (sorted (signed L primary F) (inside_parentheses want)) (sorted (signed L primary H) (inside_parentheses want)) (read_signed scan L read inner want) (Not (is_sign_of on_primary))
    unfolding read_signed
    signed_exact want = exact_prefixed scan (codes "-") L.negated (operands L primary F) (operands L primary H) sorts.Value (inside_parentheses want) (value_inside want) (operands_begin L primary H (sign_begins (codes "(") (codes "-")) l.no_minus) (operand_exact wants.Value) (operand_exact want)

    product_exact : (want : Want) → Exact (each_token scan) (sorted (products L primary F) (inside_parentheses want)) (sorted (products L primary H) (inside_parentheses want)) (read_product scan L read inner want) (Not (is_sign_of (on_product L)))
    unfolding read_level
    product_exact want = exact_chain scan L.joined L.product on_primary tables.product tables.product_apart (signed L primary F) (signed L primary H) sorts.Value (inside_parentheses want) (signed_exact want) (signed_exact wants.Value)

    sum_exact : (want : Want) → Exact (each_token scan) (sorted (sums L primary F) (inside_parentheses want)) (sorted (sums L primary H) (inside_parentheses want)) (read_sum scan L read inner want) (Not (is_sign_of (on_sum L)))
    unfolding read_level
    sum_exact want = exact_chain scan L.joined L.sum (on_product L) tables.sum tables.sum_apart (products L primary F) (products L primary H) sorts.Value (inside_parentheses want) (product_exact want) (product_exact wants.Value)

    compare_exact : (want : Want) → Exact (each_token scan) (sorted (comparisons L primary F) want) (sorted (comparisons L primary H) want) (read_compare scan L read inner want) (Not (is_sign_of (on_comparison L)))
    compare_exact = exact_compare scan L tables.relation tables.relation_apart read inner (sums L primary F) (sums L primary H) sum_exact

    no_tilde : (sort : Sort) → Begins (comparisons L primary H sort) (is_sign (codes "~")) false
    no_tilde = comparisons_begin L primary H (sign_begins (codes "(") (codes "~")) l.no_tilde (sign_begins (codes "-") (codes "~"))

    not_exact : (want : Want) → Exact (each_token scan) (sorted (opposites L primary F) want) (sorted (opposites L primary H) want) (read_not scan L read inner want) (Not (is_sign_of (on_comparison L)))
    unfolding read_not read_opposite
    not_exact wants.Value = exact_by (into_value L primary F) (back_value L primary H) (compare_exact wants.Value)
    not_exact wants.Truth = exact_prefixed scan (codes "~") L.opposite (comparisons L primary F) (comparisons L primary H) sorts.Truth wants.Truth tt no_tilde (compare_exact wants.Truth) (compare_exact wants.Truth)
    not_exact wants.Any = exact_prefixed scan (codes "~") L.opposite (comparisons L primary F) (comparisons L primary H) sorts.Truth wants.Any tt no_tilde (compare_exact wants.Truth) (compare_exact wants.Any)

    and_exact : (want : Want) → Exact (each_token scan) (sorted (conjunctions L primary F) want) (sorted (conjunctions L primary H) want) (read_and scan L read inner want) (Not (is_sign_of (on_and L)))
    unfolding read_level
    and_exact want = exact_chain scan L.joined L.and (on_comparison L) tables.and tables.and_apart (opposites L primary F) (opposites L primary H) sorts.Truth want (not_exact want) (not_exact wants.Truth)

    pub or_exact : (want : Want) → Exact (each_token scan) (sorted (disjunctions L primary F) want) (sorted (disjunctions L primary H) want) (read_or scan L read inner want) (Not (goes_on L))
    unfolding read_level
    or_exact want = exact_chain scan L.joined L.or (on_and L) tables.or tables.or_apart (conjunctions L primary F) (conjunctions L primary H) sorts.Truth want (and_exact want) (and_exact wants.Truth)
