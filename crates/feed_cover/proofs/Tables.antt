-- A dimension of a cube is one of the model.
use Rattle.std.proofs.Common.{◌≡◌, sym, ap, ◌∙◌, ℕ, ◌<◌, Some, List, length}
use Rattle.std.specs.Prelude.{slice_get, slice_index_or}
use Rattle.cube_space.specs.declared.shape.CubeShape.{CubeShape}
use Rattle.cube_space.specs.Layout.{Layout, axes}
use Rattle.cube_space.specs.Cells.{IsSpace}
use Rattle.ref_order.proofs.Axes.{axis-low, axis-is}
use Rattle.cover_laws.proofs.Pairs.{arg-there}

-- a dimension of a cube is the one of the model that has its number
pub number-is : (space own : Layout) (cube dim : ℕ) (shape : CubeShape) (dims : List ℕ) → own ≡ space → IsSpace space → slice_get own.cubes cube ≡ Some shape → dims ≡ shape.dims
    → dim < length (axes space cube) → slice_get space.dimensions (slice_index_or dims dim 0) ≡ slice_get (axes space cube) dim
number-is space own cube dim shape dims same valid found named low =
    let axis = axis-low space own cube dim shape dims same valid found named low in
    let (d, at) = arg-there own.dimensions (slice_index_or dims dim 0) axis.number in
    ap (λ (l : Layout). slice_get l.dimensions (slice_index_or dims dim 0)) (sym same) ∙ at ∙ sym (axis-is space own cube dim shape dims d same valid found named low at)
