-- The product that counts the leaf cells below, dimension by dimension.
use Rattle.std.proofs.Common.{◌≡◌, refl, sym, ap, ◌∙◌, arith, ℕ, ◌+◌, ◌*◌, ◌<◌, ◌≤◌, ℤ, List, [], ◌∷◌, length, drop, Some}
use Rattle.std.specs.Prelude.{slice_get, slice_index_or}
use Rattle.std.specs.List.{range_with_len}
use Rattle.std.proofs.lemmas.List.{length-map}
use Rattle.std.proofs.lemmas.List.FromFn.{length-range_with_len}
use Rattle.dim_core.specs.Outline.{Outline}
use Rattle.dim_weights.specs.Coefficients.{coef}
use Rattle.dim_weights.specs.Table.{leaves_of}
use Rattle.cube_space.specs.Radix.{product}
use Rattle.cube_space.specs.Layout.{Layout, axes, axes_of, sizes_of}
use Rattle.cube_space.specs.Cells.{IsSpace, IsCell, cube_of, elements_of}
use Rattle.rule_model.specs.Weights.{leaves_below}
use Rattle.rule_model.proofs.Coefs.{axes_at}
use Rattle.cell_spread.specs.Spread.{cells_below}
use Rattle.cell_spread.specs.Inside.Counts.{leaf_product}
use Rattle.cell_spread.proofs.Counting.{tally-all, counts, below-tally}
use Rattle.cell_spread.proofs.Rounding.{drop-at}
use Rattle.cell_spread.proofs.Walks.{among-few}

pub product-at : (D : List Outline) (dims at : List ℕ) (from : ℕ) (d : Outline) → from < length dims → from < length at → slice_get D (slice_index_or dims from 0) ≡ Some d
    → leaf_product (axes_of D (drop from dims)) (drop from at) ≡ length (leaves_of d (slice_index_or at from 0)) * leaf_product (axes_of D (drop (from + 1) dims)) (drop (from + 1) at)
product-at D dims at from d h k is = rw (axes_at D dims from d h is, drop-at at from 0 k) refl

pub sizes-at : (D : List Outline) (dims : List ℕ) (from : ℕ) (d : Outline) → from < length dims → slice_get D (slice_index_or dims from 0) ≡ Some d
    → product (sizes_of (axes_of D (drop from dims))) ≡ length d.elements * product (sizes_of (axes_of D (drop (from + 1) dims)))
sizes-at D dims from d h is = ap (λ ds. product (sizes_of ds)) (axes_at D dims from d h is)

pub leaves-few : (d : Outline) (e : ℕ) → length (leaves_of d e) ≤ length d.elements
leaves-few d e =
    let few = among-few (coef d e) (range_with_len 0 (length d.elements)) in
    let long = length-range_with_len 0 (length d.elements) in
    omega (arith, few, long)

counts-none : (ds : List Outline) (es : List ℕ) → counts ds es [] ≡ leaf_product ds es
counts-none [] es = refl
counts-none (d ∷ ds) [] = refl
counts-none (d ∷ ds) (e ∷ es) = ap (λ k. k * counts ds es []) (tally-all (leaves_of d e)) ∙ ap (λ k. length (leaves_of d e) * k) (counts-none ds es)

pub count-below : (space : Layout) → IsSpace space → (cell : ℕ) → IsCell space cell → length (leaves_below space cell) ≡ leaf_product (axes space (cube_of space cell)) (elements_of space cell)
count-below space valid cell here =
    sym (length-map (leaves_below space cell) (λ (pair : ℕ × ℤ). pair.0)) ∙ sym (tally-all (cells_below space cell)) ∙ below-tally space valid cell here []
    ∙ counts-none (axes space (cube_of space cell)) (elements_of space cell)
