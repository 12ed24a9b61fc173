-- The table of a dimension of a cube, by its place.
use Rattle.std.proofs.Common.{◌≡◌, refl, sym, ap, ◌∙◌, arith, subst, ℕ, zero, suc, ◌<◌, Some, ℤ, List, [], ◌∷◌, length, get_or}
use Rattle.std.specs.Prelude.{slice_get, slice_index_or}
use Rattle.std.specs.List.{AllZip}
use Rattle.dim_core.specs.Outline.{Outline}
use Rattle.dim_weights.specs.Table.{IsWeightsOf}
use Rattle.cube_space.specs.declared.shape.CubeShape.{CubeShape}
use Rattle.cube_space.specs.Layout.{Layout, axes}
use Rattle.cube_space.specs.Cells.{IsSpace}
use Rattle.rule_model.specs.Weights.{AreWeightsOf}
use Rattle.ref_order.proofs.Axes.{axis-low, axis-is}

zip-at : (ds : List Outline) (ts : List (List (List (ℕ × ℤ)))) (k : ℕ) (t : List (List (ℕ × ℤ))) → AllZip IsWeightsOf ds ts → k < length ds → (k < length ts) × ((d : Outline) × (slice_get ds k ≡ Some d) × IsWeightsOf d (get_or ts k t))
zip-at [] ts k t all low = absurd (omega (arith, low))
zip-at (d ∷ ds) [] k t all low = absurd all
zip-at (d ∷ ds) (x ∷ ts) zero t all low = (omega arith, (d, refl, all.0))
zip-at (d ∷ ds) (x ∷ ts) (suc k) t all low = let (less, found) = zip-at ds ts k t all.1 (omega (arith, low)) in (omega (arith, less), found)

-- the table of a dimension is there, and it is that of the dimension
pub record IsTable (space : Layout) (cube dim : ℕ) (tables : List (List (List (ℕ × ℤ)))) (number : ℕ) : Type 0 where
  pub low : number < length tables
  pub of : (table : List (List (ℕ × ℤ))) → table ≡ get_or tables number table → (d : Outline) → slice_get (axes space cube) dim ≡ Some d → IsWeightsOf d table

pub table-at : (space own : Layout) (cube dim : ℕ) (shape : CubeShape) (dims : List ℕ) (tables : List (List (List (ℕ × ℤ)))) → own ≡ space → IsSpace space → slice_get own.cubes cube ≡ Some shape → dims ≡ shape.dims
    → dim < length (axes space cube) → AreWeightsOf space.dimensions tables → IsTable space cube dim tables (slice_index_or dims dim 0)
table-at space own cube dim shape dims tables same valid found named low are =
    let axis = axis-low space own cube dim shape dims same valid found named low in
    let number = subst (λ (l : Layout). slice_index_or dims dim 0 < length l.dimensions) same axis.number in
    let at = zip-at space.dimensions tables (slice_index_or dims dim 0) [] are number in
    record {
      low = at.0;
      of = λ table is d here.
          let (o, there, holds) = (zip-at space.dimensions tables (slice_index_or dims dim 0) table are number).1 in
          let own_d = axis-is space own cube dim shape dims o same valid found named low (ap (λ (l : Layout). slice_get l.dimensions (slice_index_or dims dim 0)) same ∙ there) in
          let equal : o ≡ d = cc in
          subst (λ (o : Outline). IsWeightsOf o table) equal (subst (IsWeightsOf o) (sym is) holds);
    }
