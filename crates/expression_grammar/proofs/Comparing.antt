-- What stands behind a value that may be the left side of a comparison.
use Rattle.std.proofs.Common.{◌≡◌, List, [], ◌++◌, true, false, refl, sym, ◌∙◌, ap, subst, inl, inr, append-nil}
use Rattle.cube_lex.specs.Lexeme.{Lexeme}
use Rattle.grammar.specs.Grammar.{Grammar, done, one, both, either}
use Rattle.grammar.specs.Reading.{starts}
use Rattle.grammar.specs.Watch.{each_token}
use Rattle.grammar.proofs.Exact.{Exact, Always, Not, exact_gives, exact_then, exact_both, exact_by, exact_before, exact_choose}
use Rattle.grammar.proofs.Begins.{Begins, begins_both, starts_text}
use Rattle.expression_grammar.specs.Language.{Language, operator, is_operator}
use Rattle.expression_grammar.specs.Readers.Reading.{Scanner, Sorted, PrimaryReader, inside_parentheses, read_sum, read_compared, behind_left, read_compare}
use Rattle.expression_grammar.specs.declared.sort.Sort.{Sort}
use Rattle.expression_grammar.specs.declared.sort.Sort.TheVariants as sorts
use Rattle.expression_grammar.specs.declared.sort.Want.{Want}
use Rattle.expression_grammar.specs.declared.sort.Want.TheVariants as wants
use Rattle.expression_grammar.proofs.Languages.{is_sign_of, is_filled, is_apart, on_sum, on_comparison}
use Rattle.expression_grammar.proofs.Operators.{not_signs, not_operator, operator_begins, operator_apart, exact_operator}
use Rattle.expression_grammar.proofs.Levels.{Sorts, sorted, exact_of_sort}
use Rattle.expression_grammar.proofs.Parts.{compared}

module _ {A O R C : Type 0} (scan : Scanner R C) (L : Language A O) where
  -- an operator and the right side
  abbrev right_side : Grammar Lexeme A → A → Grammar Lexeme (A × Sort)
  right_side V e = both (one (operator L.relation)) (λ o. both V (λ right. done (L.joined o e right, sorts.Truth)))

  abbrev behind : Want → Grammar Lexeme A → A × Sort → Grammar Lexeme (A × Sort)
  behind want V (e, sorts.Truth) = done (e, sorts.Truth)
  behind wants.Value V (e, sorts.Value) = done (e, sorts.Value)
  behind wants.Truth V (e, sorts.Value) = right_side V e
  behind wants.Any V (e, sorts.Value) = either (right_side V e) (done (e, sorts.Value))

  abbrev into : Sorts A → Want → List Lexeme → A × Sort → Type 0
  into F want u x = sorted (compared L F) want u x

  none : (F : Sorts A) (sort : Sort) (u v w : List Lexeme) (e : A) → u ≡ v ++ w → w ≡ [] → F sort v e → F sort u e
  none F sort u v w e parts nothing h = subst (λ z. F sort z e) (sym (parts ∙ ap (λ z. v ++ z) nothing ∙ append-nil v)) h

  into_compared : (F : Sorts A) (want : Want) (u : List Lexeme) (x : A × Sort) → both (sorted F (inside_parentheses want)) (behind want (F sorts.Value)) u x → sorted (compared L F) want u x
  into_compared F wants.Value u x (v, w, (e, sorts.Value), parts, (fit, h), (nothing, is)) = subst (into F wants.Value u) (sym is) (tt, none F sorts.Value u v w e parts nothing h)
  into_compared F wants.Value u x (v, w, (e, sorts.Truth), parts, (fit, h), (nothing, is)) = absurd fit
  into_compared F wants.Truth u x (v, w, (e, sorts.Value), parts, (fit, h), (a, b, o, more, takes, (c, d, right, last, k, (nothing, is)))) = subst (into F wants.Truth u) (sym is) (tt, inr (v, w, e, parts, h, (a, b, o, more, takes, (c, d, right, last, k, (nothing, refl)))))
  into_compared F wants.Truth u x (v, w, (e, sorts.Truth), parts, (fit, h), (nothing, is)) = subst (into F wants.Truth u) (sym is) (tt, inl (none F sorts.Truth u v w e parts nothing h))
  into_compared F wants.Any u x (v, w, (e, sorts.Value), parts, (fit, h), inl (a, b, o, more, takes, (c, d, right, last, k, (nothing, is)))) = subst (into F wants.Any u) (sym is) (tt, inr (v, w, e, parts, h, (a, b, o, more, takes, (c, d, right, last, k, (nothing, refl)))))
  into_compared F wants.Any u x (v, w, (e, sorts.Value), parts, (fit, h), inr (nothing, is)) = subst (into F wants.Any u) (sym is) (tt, none F sorts.Value u v w e parts nothing h)
  into_compared F wants.Any u x (v, w, (e, sorts.Truth), parts, (fit, h), (nothing, is)) = subst (into F wants.Any u) (sym is) (tt, inl (none F sorts.Truth u v w e parts nothing h))

  back_compared : (F : Sorts A) (want : Want) (u : List Lexeme) (x : A × Sort) → sorted (compared L F) want u x → both (sorted F (inside_parentheses want)) (behind want (F sorts.Value)) u x
  back_compared F wants.Value u (e, sorts.Value) (fit, h) = (u, [], (e, sorts.Value), sym (append-nil u), (tt, h), (refl, refl))
  back_compared F wants.Value u (e, sorts.Truth) (fit, h) = absurd fit
  back_compared F wants.Truth u (e, sorts.Value) (fit, h) = absurd fit
  back_compared F wants.Truth u (e, sorts.Truth) (fit, inl h) = (u, [], (e, sorts.Truth), sym (append-nil u), (tt, h), (refl, refl))
  back_compared F wants.Truth u (e, sorts.Truth) (fit, inr (v, w, left, parts, h, (a, b, o, more, takes, (c, d, right, last, k, (nothing, is))))) = (v, w, (left, sorts.Value), parts, (tt, h), (a, b, o, more, takes, (c, d, right, last, k, (nothing, ap (λ y. (y, sorts.Truth)) is))))
  back_compared F wants.Any u (e, sorts.Value) (fit, h) = (u, [], (e, sorts.Value), sym (append-nil u), (tt, h), inr (refl, refl))
  back_compared F wants.Any u (e, sorts.Truth) (fit, inl h) = (u, [], (e, sorts.Truth), sym (append-nil u), (tt, h), (refl, refl))
  back_compared F wants.Any u (e, sorts.Truth) (fit, inr (v, w, left, parts, h, (a, b, o, more, takes, (c, d, right, last, k, (nothing, is))))) = (v, w, (left, sorts.Value), parts, (tt, h), inl (a, b, o, more, takes, (c, d, right, last, k, (nothing, ap (λ y. (y, sorts.Truth)) is))))

  module _ (filled : is_filled L.relation ≡ true) (apart : is_apart (on_sum L) L.relation ≡ true) where
    right_side_apart : (V : Grammar Lexeme A) (e : A) → Begins (right_side V e) (is_sign_of (on_sum L)) false
    right_side_apart V e = begins_both (operator_apart (on_sum L) L.relation apart)

    right_side_begins : (V : Grammar Lexeme A) (e : A) → Begins (right_side V e) (is_operator L.relation) true
    right_side_begins V e = begins_both (operator_begins L.relation)

    before_none : (x y : A × Sort) (v rest : List Lexeme) → done x v y → Not (is_sign_of (on_comparison L)) rest → Not (is_sign_of (on_sum L)) (v ++ rest)
    before_none x y v rest h stops = subst (λ z. Not (is_sign_of (on_sum L)) (z ++ rest)) (sym h.0) (not_signs (on_sum L) L.relation rest stops)

    follow : (V : Grammar Lexeme A) (want : Want) (x : A × Sort) (v : List Lexeme) (y : A × Sort) (rest : List Lexeme) → behind want V x v y → Not (is_sign_of (on_comparison L)) rest → Not (is_sign_of (on_sum L)) (v ++ rest)
    follow V wants.Value (e, sorts.Truth) v y rest h stops = before_none (e, sorts.Truth) y v rest h stops
    follow V wants.Truth (e, sorts.Truth) v y rest h stops = before_none (e, sorts.Truth) y v rest h stops
    follow V wants.Any (e, sorts.Truth) v y rest h stops = before_none (e, sorts.Truth) y v rest h stops
    follow V wants.Value (e, sorts.Value) v y rest h stops = before_none (e, sorts.Value) y v rest h stops
    follow V wants.Truth (e, sorts.Value) v y rest h stops = starts_text (right_side_apart V e) v y rest h
    follow V wants.Any (e, sorts.Value) v y rest (inl h) stops = starts_text (right_side_apart V e) v y rest h
    follow V wants.Any (e, sorts.Value) v y rest (inr h) stops = before_none (e, sorts.Value) y v rest h stops

    module _ (read : PrimaryReader R C A) (inner : Sorted R C A) (F H : Sorts A) (exact : (want : Want) → Exact (each_token scan) (sorted F (inside_parentheses want)) (sorted H (inside_parentheses want)) (read_sum scan L read inner want) (Not (is_sign_of (on_sum L)))) where
      right_side_exact : (e : A) → Exact (each_token scan) (right_side (F sorts.Value) e) (right_side (H sorts.Value) e) (read_compared scan L read inner e) (Not (is_sign_of (on_sum L)))
      unfolding read_compared
      right_side_exact e = exact_then (exact_operator scan L.relation filled) (λ o. exact_of_sort F H (λ right. (L.joined o e right, sorts.Truth)) sorts.Value (exact wants.Value))

      behind_exact : (want : Want) (x : A × Sort) → Exact (each_token scan) (behind want (F sorts.Value) x) (behind want (H sorts.Value) x) (behind_left scan L read inner want x) (Not (is_sign_of (on_comparison L)))
      unfolding behind_left
      behind_exact wants.Value (e, sorts.Truth) = exact_before (λ _ _. tt) (exact_gives (each_token scan) (e, sorts.Truth))
      behind_exact wants.Truth (e, sorts.Truth) = exact_before (λ _ _. tt) (exact_gives (each_token scan) (e, sorts.Truth))
      behind_exact wants.Any (e, sorts.Truth) = exact_before (λ _ _. tt) (exact_gives (each_token scan) (e, sorts.Truth))
      behind_exact wants.Value (e, sorts.Value) = exact_before (λ _ _. tt) (exact_gives (each_token scan) (e, sorts.Value))
      behind_exact wants.Truth (e, sorts.Value) = exact_before (not_signs (on_sum L) L.relation) (right_side_exact e)
      behind_exact wants.Any (e, sorts.Value) = exact_choose {S' = Always} {S'' = Not (is_sign_of (on_comparison L))} (is_operator L.relation) (right_side_exact e) (exact_gives (each_token scan) (e, sorts.Value))
          (λ u x rest h stops. (starts_text (right_side_begins (H sorts.Value) e) u x rest h, not_signs (on_sum L) L.relation rest stops))
          (λ u x rest h stops. (ap (λ z. starts (is_operator L.relation) (z ++ rest)) h.0 ∙ not_operator (on_sum L) L.relation rest stops, tt))

      -- a value, a comparison, or a truth in parentheses
      pub exact_compare : (want : Want) → Exact (each_token scan) (sorted (compared L F) want) (sorted (compared L H) want) (read_compare scan L read inner want) (Not (is_sign_of (on_comparison L)))
      unfolding read_compare
      exact_compare want = exact_by (into_compared F want) (back_compared H want) (exact_both (exact want) (behind_exact want) (follow (H sorts.Value) want))
