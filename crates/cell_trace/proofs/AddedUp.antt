-- The parts that are printed add up to their sum.
use Rattle.std.proofs.Common.{◌≡◌, refl, sym, ◌∙◌, ap, arith, ℕ, ◌-◌, ◌≤◌, ltb, Bool, true, false, ◌||◌, cond, ℤ, pos, ◌+ℤ◌, List, [], ◌∷◌, ◌++◌, length, map, take}
use Rattle.std.specs.Prelude.{fold}
use Rattle.std.proofs.Math.Bool.{or-false as or_false}
use Rattle.std.proofs.lemmas.Bool.Decides.{Decides-int_eq, nat_tests}
use Rattle.std.proofs.lemmas.Int.{ints}
use Rattle.std.proofs.lemmas.List.{append-nil, take_all}
use Rattle.cube_fixed.specs.declared.value.Value.{Value}
use Rattle.cube_fixed.specs.declared.value.Value.TheVariants.{Num, Over}
use Rattle.cube_fixed.specs.Arithmetic.{is_zero, zero_value}
use Rattle.cube_fixed.specs.Total.{Total, no_terms, with_term, term_of, over_enters, value_of}
use Rattle.rule_laws.specs.RuleSystem.{weighted_sum}
use Rattle.rule_laws.proofs.SystemFacts.{add_pair}
use Rattle.cell_trace.specs.declared.line.Line.{Line}
use Rattle.cell_trace.specs.declared.line.Line.TheVariants as lines
use Rattle.cell_trace.specs.Inside.Listed.{part_at}
use Rattle.cell_trace.specs.Laws.{with_line, sum_of_lines}
use Rattle.cell_trace.specs.Trace.{most_parts, part_lines}
use Rattle.cell_trace.proofs.MoreParts.{others}

zero-is : (u : Value) → is_zero u ≡ true → u ≡ zero_value
zero-is (Num z) is = ap Num ((Decides-int_eq z (pos 0)).0 is)
zero-is Over is = absurd (cc)

module _ (values : ℕ → Value) where
  as_parts : (total : Total) (cells : List (ℕ × ℤ)) → fold with_line total (map (λ pair. lines.Part (part_at values pair)) cells) ≡ fold (add_pair values) total cells
  as_parts total [] = refl
  as_parts total (cell ∷ cells) = as_parts (add_pair values total cell) cells

  -- where all are listed
  all-listed : (most : ℕ) (cells : List (ℕ × ℤ)) (more : List Line) → length cells ≤ most
      → map (λ pair. lines.Part (part_at values pair)) (take most cells) ++ cond (ltb most (length cells)) more [] ≡ map (λ pair. lines.Part (part_at values pair)) cells
  all-listed most cells more few =
      let no_more : ltb most (length cells) ≡ false = grind (arith, nat_tests, few) in
      rw no_more
      (append-nil (map (λ pair. lines.Part (part_at values pair)) (take most cells))
      ∙ ap (λ (pairs : List (ℕ × ℤ)). map (λ pair. lines.Part (part_at values pair)) pairs) (take_all most cells few))

  pub added-up : (cells : List (ℕ × ℤ)) → length cells ≤ most_parts → sum_of_lines (part_lines values cells) ≡ weighted_sum values cells
  added-up cells few =
      ap sum_of_lines (all-listed most_parts cells (lines.More (length cells - most_parts) ∷ []) few) ∙ ap value_of (as_parts no_terms cells)

  -- those that are 0 add nothing
  without-zeros : (cells : List (ℕ × ℤ)) (s t : Total) → s.exact ≡ t.exact → s.over ≡ t.over
      → value_of (fold (add_pair values) s (others values cells)) ≡ value_of (fold (add_pair values) t cells)
  without-zeros [] s t exact over = rw (exact, over) refl
  without-zeros (cell ∷ cells) s t exact over = by (is_zero (values cell.0)) refl (λ s t. without-zeros cells s t)
    where
      by : (b : Bool) → is_zero (values cell.0) ≡ b
          → ((s t : Total) → s.exact ≡ t.exact → s.over ≡ t.over → value_of (fold (add_pair values) s (others values cells)) ≡ value_of (fold (add_pair values) t cells))
          → value_of (fold (add_pair values) s (others values (cell ∷ cells))) ≡ value_of (fold (add_pair values) t (cell ∷ cells))
      by false other rest =
          rw other
          (rest (add_pair values s cell) (add_pair values t cell)
          (ap (λ (z : ℤ). z +ℤ term_of cell.1 (values cell.0)) exact) (ap (λ (b : Bool). b || over_enters cell.1 (values cell.0)) over))
      by true zero rest =
          let none = zero-is (values cell.0) zero in
          let same : (with_term t cell.1 zero_value).exact ≡ t.exact = omega (arith, ints) in
          rw zero
          (rest s (add_pair values t cell)
          (exact ∙ sym (ap (λ (u : Value). (with_term t cell.1 u).exact) none ∙ same))
          (over ∙ sym (ap (λ (u : Value). (with_term t cell.1 u).over) none ∙ or_false t.over)))

  pub others-add_up : (cells : List (ℕ × ℤ)) → length (others values cells) ≤ most_parts → sum_of_lines (part_lines values (others values cells)) ≡ weighted_sum values cells
  others-add_up cells few = added-up (others values cells) few ∙ without-zeros cells no_terms no_terms refl refl
