-- The level of a cell, dimension by dimension, and what its number is at a position.
use Rattle.std.proofs.Common.{◌≡◌, refl, sym, ap, ◌∙◌, arith, subst, ℕ, zero, suc, ◌+◌, ◌<◌, ◌≤◌, true, Some, List, [], ◌∷◌, length, take, drop, get_or}
use Rattle.std.specs.Prelude.{slice_get}
use Rattle.std.specs.List.{zip}
use Rattle.std.proofs.lemmas.List.Sums.{sum_by-cons}
use Rattle.dim_core.specs.Outline.{Outline, level}
use Rattle.cube_space.specs.Radix.{are_digits}
use Rattle.cube_space.specs.Layout.{Layout, axes, sizes}
use Rattle.cube_space.specs.Cells.{IsCell, cube_of, elements_of}
use Rattle.cube_space.proofs.Radix.{digits-length, digit-below}
use Rattle.order_laws.proofs.CellFacts.{axes-sizes, cell-cube, cell-digits, digits-long}
use Rattle.order_laws.proofs.ChildFacts.{size-at}
use Rattle.late_example.specs.Inside.Shown.{levels}

pub cell_cube : (space : Layout) (c : ℕ) → IsCell space c → cube_of space c < length space.cubes
cell_cube = cell-cube

pub cell_digits : (space : Layout) (c : ℕ) → IsCell space c → are_digits (sizes space (cube_of space c)) (elements_of space c) ≡ true
cell_digits = cell-digits

-- the level of one element, and those of the later ones
pub levels_next : (dims : List Outline) (es : List ℕ) (from : ℕ) (d : Outline) → slice_get dims from ≡ Some d → from < length es
    → level d (get_or es from 0) + levels (drop (suc from) dims) (drop (suc from) es) ≡ levels (drop from dims) (drop from es)
levels_next [] es from d is low = absurd (cc)
levels_next (x ∷ dims) [] from d is low = absurd (omega (arith, low))
levels_next (x ∷ dims) (e ∷ es) zero d is low =
    let same : x ≡ d = cc in
    ap (λ (y : Outline). level y e + levels dims es) (sym same) ∙ sym (sum_by-cons (λ (p : Outline × ℕ). level p.0 p.1) (x, e) (zip dims es))
levels_next (x ∷ dims) (e ∷ es) (suc from) d is low = levels_next dims es from d is (omega (arith, low))

pub levels_more : (dims : List Outline) (es : List ℕ) (from : ℕ) (d : Outline) → slice_get dims from ≡ Some d → from < length es
    → level d (get_or es from 0) + levels (drop (from + 1) dims) (drop (from + 1) es) ≡ levels (drop from dims) (drop from es)
levels_more dims es from d is low =
    subst (λ (n : ℕ). level d (get_or es from 0) + levels (drop n dims) (drop n es) ≡ levels (drop from dims) (drop from es)) (let e : suc from ≡ from + 1 = omega arith in e)
    (levels_next dims es from d is low)

pub levels_none : (dims : List Outline) (es : List ℕ) (from : ℕ) → from ≡ length es → 0 ≡ levels (drop from dims) (drop from es)
levels_none dims [] from same = by dims from (omega (arith, same))
  where
    by : (dims : List Outline) (from : ℕ) → from ≡ 0 → 0 ≡ levels (drop from dims) (drop from [])
    by [] zero e = refl
    by (x ∷ dims) zero e = refl
    by dims (suc from) e = absurd (omega (arith, e))
levels_none [] (e ∷ es) zero same = absurd (omega (arith, same))
levels_none [] (e ∷ es) (suc from) same = refl
levels_none (x ∷ dims) (e ∷ es) zero same = absurd (omega (arith, same))
levels_none (x ∷ dims) (e ∷ es) (suc from) same = levels_none dims es from (omega (arith, same))

-- an element is one of its dimension
pub element_low : (space : Layout) (cube from : ℕ) (es : List ℕ) (d : Outline) → are_digits (sizes space cube) es ≡ true → from < length es → slice_get (axes space cube) from ≡ Some d → get_or es from 0 < length d.elements
element_low space cube from es d digits low is =
    let less = digit-below (sizes space cube) es from 0 0 digits (omega (arith, low, digits-length (sizes space cube) es digits)) in
    omega (arith, less, size-at (axes space cube) from d is)

pub from_low : (space : Layout) (cube from : ℕ) (es : List ℕ) → are_digits (sizes space cube) es ≡ true → from < length es → from < length (axes space cube)
from_low space cube from es digits low = omega (arith, low, digits-length (sizes space cube) es digits, axes-sizes space cube)

-- ---- the elements of a cell as they stand in an array

pub take_short : (n : ℕ) (xs : List ℕ) → length (take n xs) ≤ n
take_short zero xs = omega arith
take_short (suc n) [] = omega arith
take_short (suc n) (x ∷ xs) = omega (arith, take_short n xs)

pub taken_item : (n : ℕ) (xs : List ℕ) (k : ℕ) → k < n → get_or (take n xs) k 0 ≡ get_or xs k 0
taken_item zero xs k low = absurd (omega (arith, low))
taken_item (suc n) [] k low = refl
taken_item (suc n) (x ∷ xs) zero low = refl
taken_item (suc n) (x ∷ xs) (suc k) low = taken_item n xs k (omega (arith, low))

pub dim_low : (space : Layout) (c count dim : ℕ) (at : List ℕ) → IsCell space c → take count at ≡ elements_of space c → dim < length (axes space (cube_of space c)) → dim < count
dim_low space c count dim at cell same low =
    omega (arith, low, take_short count at, ap length same, digits-long space (cube_of space c) (elements_of space c) (cell-digits space c cell))

pub item_is : (space : Layout) (c count dim : ℕ) (at : List ℕ) → take count at ≡ elements_of space c → dim < count → get_or at dim 0 ≡ get_or (elements_of space c) dim 0
item_is space c count dim at same low = sym (taken_item count at dim low) ∙ ap (λ xs. get_or xs dim 0) same

pub dim_within : (space : Layout) (c dim : ℕ) → IsCell space c → dim < length (axes space (cube_of space c)) → dim < length (elements_of space c)
dim_within space c dim cell low = omega (arith, low, digits-long space (cube_of space c) (elements_of space c) (cell-digits space c cell))
