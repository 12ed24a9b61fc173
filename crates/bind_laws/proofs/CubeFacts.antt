-- The numbers of a cube's dimensions are those of dimensions.
use Rattle.std.proofs.Common.{◌<◌, ℕ, [], length, sym, subst, All}
use Rattle.std.proofs.lemmas.List.{get_or-map}
use Rattle.cube_space.specs.declared.shape.CubeShape.{CubeShape}
use Rattle.cube_space.specs.Layout.{Layout, dims_of}
use Rattle.cube_space.specs.Cells.{IsSpace}

pub dims_within : (space : Layout) (cube : ℕ) → IsSpace space → cube < length space.cubes → All (λ dim. dim < length space.dimensions) (dims_of space cube)
dims_within space cube valid low =
    let none : CubeShape = record { name = []; dims = [] } in
    subst (All (λ dim. dim < length space.dimensions)) (sym (get_or-map (λ s. s.dims) space.cubes cube none [] low)) (valid.layout.in_range cube none low)
