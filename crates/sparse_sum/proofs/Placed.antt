-- What is known of a cell and of the dimensions of its cube, and what is found in the cube.
use Rattle.std.proofs.Common.{◌≡◌, ◌∙◌, sym, ap, subst, arith, ℕ, ◌+◌, ◌-◌, ◌<◌, ◌≤◌, List, length, map, take, inl, inr, pos, ℤ}
use Rattle.std.proofs.lemmas.Bool.{cases_lt}
use Rattle.cube_space.specs.Radix.{product}
use Rattle.cube_space.specs.Layout.{Layout, axes_of, sizes_of}
use Rattle.cube_space.specs.Cells.{IsCell, cube_of, elements_of, cell_count, first_cell, size_of}
use Rattle.cube_space.proofs.Places.{cell-place, run_within}
use Rattle.rule_model.specs.Weights.{weight, greatest_coef, weight_product}
use Rattle.model_laws.proofs.Placed.{IsPlaced}
use Rattle.sparse_sum.specs.Inside.First.{IsClear, IsFirst}
use Rattle.sparse_sum.specs.Inside.Numbers.{weight_at}
use Rattle.sparse_sum.proofs.Weights.{weight-outside, weight-inside}
pub use Rattle.cube_space.proofs.Places.{run_within as run-within}
pub use Rattle.rule_model.proofs.Coefs.{word_of as word-is}

pub cube-there : (space : Layout) (cell cube : ℕ) → IsCell space cell → cube ≡ cube_of space cell → cube < length space.cubes
cube-there space cell cube here own = subst (λ (k : ℕ). k < length space.cubes) (sym own) (cell-place space cell here).place.there

pub small-of : (space : Layout) (cell cube : ℕ) (dims at : List ℕ) → IsPlaced space cell cube dims at → product (map greatest_coef (axes_of space.dimensions dims)) ≤ weight_product space (cube_of space cell)
small-of space cell cube dims at p =
    let same : product (map greatest_coef (axes_of space.dimensions dims)) ≡ weight_product space (cube_of space cell) = ap (λ ds. product (map greatest_coef ds)) p.its_axes in
    omega (arith, same)

pub cells-of : (space : Layout) (cell cube : ℕ) (dims at : List ℕ) → IsPlaced space cell cube dims at → cell_count space cube ≡ product (sizes_of (axes_of space.dimensions dims))
cells-of space cell cube dims at p = ap (λ ds. product (sizes_of ds)) (sym p.axes_are)

module _ (space : Layout) (cell cube : ℕ) (here : IsCell space cell) (own : cube ≡ cube_of space cell)
    (first cells from begin : ℕ) (first_is : first ≡ first_cell space cube) (cells_is : cells ≡ cell_count space cube) (begin_is : begin ≡ from - first) where
  abbrev w : ℕ → ℤ
  w = weight space cell

  there : cube < length space.cubes
  there = cube-there space cell cube here own

  run : first + cells ≤ size_of space
  run = let r = run_within space cube there in omega (arith, r, first_is, cells_is)

  outside : (n : ℕ) → n < size_of space → (first ≤ n → n < first + cells → ⊥) → w n ≡ pos 0
  outside n less out = weight-outside space cell cube own n less (λ low high. out (omega (arith, low, first_is)) (omega (arith, high, first_is, cells_is)))

  pub none-past : cells ≤ begin → IsClear w from (size_of space)
  none-past past n low less = outside n less (λ from_first inside_run. omega (arith, past, begin_is, low, from_first, inside_run))

  module _ (dims at : List ℕ) (p : IsPlaced space cell cube dims at) where
    abbrev v : ℕ → ℤ
    v = weight_at (axes_of space.dimensions dims) (take (length dims) at)

    -- the number of a cell among those of its cube
    inside : (n : ℕ) → first ≤ n → n < first + cells → w n ≡ v (n - first)
    inside n low less =
        let e : n ≡ first_cell space cube + (n - first) = omega (arith, low, first_is) in
        ap w e ∙ weight-inside space cell cube own (n - first) there (omega (arith, low, less, cells_is))
        ∙ ap (λ ds. weight_at ds (elements_of space cell) (n - first)) (sym p.axes_are)
        ∙ ap (λ es. weight_at (axes_of space.dimensions dims) es (n - first)) (sym p.elements)

    clear-in : (end : ℕ) → end ≤ size_of space → ((n : ℕ) → begin ≤ n → n < cells → first + n < end → v n ≡ pos 0) → IsClear w from end
    clear-in end upto clear n low less = elim (cases_lt n first) [
      | inl before ↦ outside n (omega (arith, less, upto)) (λ from_first inside_run. omega (arith, before, from_first))
      | inr after ↦ elim (cases_lt n (first + cells)) [
        | inl within ↦ inside n after within ∙ clear (n - first) (omega (arith, low, after, begin_is)) (omega (arith, after, within)) (omega (arith, after, less))
        | inr past ↦ outside n (omega (arith, less, upto)) (λ from_first inside_run. omega (arith, past, inside_run))
      ]
    ]

    pub none-in : IsClear v begin cells → IsClear w from (size_of space)
    none-in clear = clear-in (size_of space) (omega arith) (λ n low less _. clear n low less)

    pub first-of : (found : ℕ × ℤ) → IsFirst v cells begin found → IsFirst w (size_of space) from (first + found.0, found.1)
    first-of found is =
        let least = is.least in
        let within = is.within in
        let r = run in
        let place : first + found.0 - first ≡ found.0 = omega arith in
        record {
          least = omega (arith, least, begin_is);
          within = omega (arith, within, r);
          own = inside (first + found.0) (omega arith) (omega (arith, within)) ∙ ap v place ∙ is.own;
          counts = is.counts;
          clear = clear-in (first + found.0) (omega (arith, within, r)) (λ n low less before. is.clear n low (omega (arith, before)));
        }
