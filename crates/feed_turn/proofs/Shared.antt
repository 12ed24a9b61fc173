-- Dimensions of two cubes that have the same number are the same.
use Rattle.std.proofs.Common.{◌≡◌, ap, ◌∙◌, sym, ℕ, ◌<◌, length}
use Rattle.std.specs.Prelude.{slice_get, slice_index_or}
use Rattle.cube_space.specs.Layout.{Layout, axes, dims_of}
use Rattle.cube_space.specs.Cells.{IsSpace}
use Rattle.cube_space.proofs.AxisFacts.{number_is}
use Rattle.lists.proofs.Found.{there}
use Rattle.rule_model.proofs.Shapes.{found_dims}

axis-of : (space : Layout) (cube i : ℕ) → IsSpace space → cube < length space.cubes → i < length (axes space cube) → slice_get space.dimensions (slice_index_or (dims_of space cube) i 0) ≡ slice_get (axes space cube) i
axis-of space cube i valid low inside =
    let (shape, at) = there space.cubes cube low in
    number_is space cube shape valid at (dims_of space cube) i (found_dims space.cubes cube shape at) inside

pub same-axis : (space : Layout) → IsSpace space → (cube other : ℕ) → cube < length space.cubes → other < length space.cubes → (i j : ℕ) → i < length (axes space cube) → j < length (axes space other)
    → slice_index_or (dims_of space cube) i 0 ≡ slice_index_or (dims_of space other) j 0 → slice_get (axes space cube) i ≡ slice_get (axes space other) j
same-axis space valid cube other low less i j inside within same =
    sym (axis-of space cube i valid low inside) ∙ ap (slice_get space.dimensions) same ∙ axis-of space other j valid less within
