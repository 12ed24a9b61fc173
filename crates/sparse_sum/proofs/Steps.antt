-- A step of a walk: what is left before and after it.
use Rattle.std.proofs.Common.{◌≡◌, ◌≢◌, ◌∙◌, sym, ap, subst, arith, ℕ, ◌+◌, ◌≤◌, inl, inr, Bool, true, ℤ, pos, List, [], ◌∷◌, filter, leb}
use Rattle.std.specs.List.{range_with_len}
use Rattle.std.proofs.lemmas.Bool.{cases_lt}
use Rattle.cube_space.specs.Layout.{Layout}
use Rattle.cube_space.specs.Cells.{IsSpace, IsCell, size_of, is_leaf_cell}
use Rattle.dim_weights.specs.Table.{is_nonzero}
use Rattle.rule_model.specs.Weights.{weight, leaf_cells}
use Rattle.sparse_sum.specs.Live.{is_live, live_from}
use Rattle.sparse_sum.specs.Inside.First.{IsClear, IsFirst, IsNext}
use Rattle.sparse_sum.proofs.Lefts.{lefts, among-all, lefts-skip, lefts-none, lefts-here}
use Rattle.sparse_sum.proofs.Pairs.{nonzero-counts, counts-nonzero}
use Rattle.sparse_sum.proofs.Weights.{counted-leaf}

module _ (space : Layout) (stored fed : List ℕ) (cell : ℕ) (valid : IsSpace space) (here : IsCell space cell) where
  abbrev w : ℕ → ℤ
  w = weight space cell

  abbrev live : ℕ → Bool
  live = is_live stored fed

  abbrev here_from : ℕ → List (ℕ × ℤ)
  here_from from = live_from space stored fed cell from

  -- without the test for leaf cells, since no other counts
  left-is : (from : ℕ) → here_from from ≡ lefts w live from (range_with_len 0 (size_of space))
  unfolding leaf_cells
  left-is from =
      ap (λ (xs : List (ℕ × ℤ)). filter (λ pair. leb from pair.0) (filter (λ pair. live pair.0) xs))
      (among-all w (is_leaf_cell space) 0 (size_of space) (λ n low less on. counted-leaf space cell n valid here on))

  no-weight : (n : ℕ) → w n ≡ pos 0 → is_nonzero (w n) ≡ true → ⊥
  no-weight n none on = nonzero-counts (w n) on none

  pub ended-live : (from : ℕ) → ((n : ℕ) → from ≤ n → live n ≢ true) → here_from from ≡ []
  ended-live from none =
      left-is from ∙ lefts-none w live from (size_of space) (λ n low less on is. none n low is)

  module _ (from next : ℕ) (at : IsNext live from next) where
    pub ended-below : IsClear w next (size_of space) → here_from from ≡ []
    ended-below clear =
        left-is from ∙ lefts-none w live from (size_of space) (λ n low less on is. (elim (cases_lt n next) [
          | inl before ↦ at.clear n low before is
          | inr after ↦ no-weight n (clear n after less) on
        ]))

    module _ (found : ℕ × ℤ) (first : IsFirst w (size_of space) next found) where
      pub jumped : here_from from ≡ here_from found.0
      jumped =
          let one = at.least in
          let two = first.least in
          left-is from
          ∙ lefts-skip w live from found.0 (size_of space) (omega (arith, one, two)) (λ n low less on is. (elim (cases_lt n next) [
            | inl before ↦ at.clear n low before is
            | inr after ↦ no-weight n (first.clear n after less) on
          ]))
          ∙ sym (left-is found.0)

      pub stepped : found.0 ≡ next → here_from from ≡ (found.0, found.1) ∷ here_from (found.0 + 1)
      stepped same =
          let on : is_nonzero (w found.0) ≡ true = counts-nonzero (w found.0) (λ none. first.counts (sym first.own ∙ none)) in
          let is : live found.0 ≡ true = subst (λ (n : ℕ). live n ≡ true) (sym same) at.passes in
          jumped ∙ left-is found.0
          ∙ lefts-here w live found.0 (size_of space) first.within on is
          ∙ ap (λ (z : ℤ). (found.0, z) ∷ lefts w live (found.0 + 1) (range_with_len 0 (size_of space))) first.own
          ∙ ap (λ (xs : List (ℕ × ℤ)). (found.0, found.1) ∷ xs) (sym (left-is (found.0 + 1)))
