-- One cell more of a sum.
use Rattle.std.proofs.Common.{◌≡◌, refl, sym, ◌∙◌, ap, ℕ, Bool, true, false, not, cond, ℤ, List, [], ◌∷◌, ◌++◌, filter}
use Rattle.std.specs.Prelude.{fold}
use Rattle.std.proofs.lemmas.List.Sums.{fold-append}
use Rattle.cube_fixed.specs.declared.value.Value.{Value}
use Rattle.cube_fixed.specs.Arithmetic.{is_zero}
use Rattle.cube_fixed.specs.Total.{Total, no_terms, with_term}
use Rattle.rule_laws.proofs.SystemFacts.{add_pair}
use Rattle.cell_trace.specs.Inside.Listed.{Listed, none_listed, with_part}
use Rattle.cell_trace.proofs.PartLines.{with_cell}

module _ (values : ℕ → Value) where
  -- of the cells that are still to come, the first is added
  pub sum-step : (pairs rest : List (ℕ × ℤ)) (x : ℕ) (z : ℤ) (u : Value) (before after whole : Total)
      → pairs ≡ (x, z) ∷ rest → u ≡ values x → after ≡ with_term before z u → fold (add_pair values) before pairs ≡ whole → fold (add_pair values) after rest ≡ whole
  sum-step pairs rest x z u before after whole next value is so_far =
      ap (λ (total : Total). fold (add_pair values) total rest) (is ∙ ap (with_term before z) value)
      ∙ ap (fold (add_pair values) before) (sym next) ∙ so_far

  abbrev pub others : List (ℕ × ℤ) → List (ℕ × ℤ)
  others pairs = filter (λ pair. not (is_zero (values pair.0))) pairs

  -- and it is a part, unless it is 0
  pub parts-step : (most : ℕ) (pairs rest : List (ℕ × ℤ)) (x : ℕ) (z : ℤ) (u : Value) (before after whole : Listed)
      → pairs ≡ (x, z) ∷ rest → u ≡ values x → after ≡ cond (is_zero u) before (with_part most before (record { cell = x; weight = z; value = u }))
      → fold (with_cell values most) before (others pairs) ≡ whole → fold (with_cell values most) after (others rest) ≡ whole
  parts-step most pairs rest x z u before after whole next value is so_far =
      by (is_zero (values x)) refl
      ∙ ap (λ (cells : List (ℕ × ℤ)). fold (with_cell values most) before (others cells)) (sym next) ∙ so_far
    where
      same : after ≡ cond (is_zero (values x)) before (with_part most before (record { cell = x; weight = z; value = values x }))
      same = is ∙ ap (λ (w : Value). cond (is_zero w) before (with_part most before (record { cell = x; weight = z; value = w }))) value

      by : (b : Bool) → is_zero (values x) ≡ b → fold (with_cell values most) after (others rest) ≡ fold (with_cell values most) before (others ((x, z) ∷ rest))
      by true zero = let e : after ≡ before = rw zero at same in rw (zero, e) refl
      by false other = let e : after ≡ with_cell values most before (x, z) = rw other at same in rw (other, e) refl

  -- a cell behind those so far is added
  pub sum-more : (cells all : List (ℕ × ℤ)) (x : ℕ) (z : ℤ) (u : Value) (before after : Total)
      → all ≡ cells ++ (x, z) ∷ [] → u ≡ values x → before ≡ fold (add_pair values) no_terms cells → after ≡ with_term before z u → after ≡ fold (add_pair values) no_terms all
  sum-more cells all x z u before after longer value so_far is =
      is ∙ ap (with_term before z) value ∙ ap (λ (total : Total). with_term total z (values x)) so_far
      ∙ sym (ap (fold (add_pair values) no_terms) longer ∙ fold-append (add_pair values) no_terms cells ((x, z) ∷ []))

  pub parts-more : (most : ℕ) (cells all : List (ℕ × ℤ)) (x : ℕ) (z : ℤ) (u : Value) (before after : Listed)
      → all ≡ cells ++ (x, z) ∷ [] → u ≡ values x → before ≡ fold (with_cell values most) none_listed cells
      → after ≡ with_part most before (record { cell = x; weight = z; value = u }) → after ≡ fold (with_cell values most) none_listed all
  parts-more most cells all x z u before after longer value so_far is =
      is ∙ ap (λ (w : Value). with_part most before (record { cell = x; weight = z; value = w })) value ∙ ap (λ (listed : Listed). with_cell values most listed (x, z)) so_far
      ∙ sym (ap (fold (with_cell values most) none_listed) longer ∙ fold-append (with_cell values most) none_listed cells ((x, z) ∷ []))
