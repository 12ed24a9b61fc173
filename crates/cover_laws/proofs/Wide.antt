-- A cube has some dimension.
use Rattle.std.proofs.Common.{◌≡◌, sym, ap, arith, subst, ℕ, ◌<◌, length, get_or, List, [], ◌∷◌, All}
use Rattle.std.proofs.lemmas.List.{get_or-map, length-map}
use Rattle.cube_space.specs.declared.shape.CubeShape.{CubeShape}
use Rattle.cube_space.specs.Layout.{Layout, axes, dims_of}
use Rattle.cube_space.specs.Cells.{IsSpace}
use Rattle.cube_space.proofs.AxisSizes.{length-axes_of}

pub some-dimension : (space : Layout) (cube : ℕ) → IsSpace space → cube < length space.cubes → 0 < length (axes space cube)
some-dimension space cube valid h =
    let d = first space.cubes (omega arith) in
    let dims : dims_of space cube ≡ (get_or space.cubes cube d).dims = get_or-map (λ s. s.dims) space.cubes cube d [] h in
    let inside : All (λ dim. dim < length space.dimensions) (dims_of space cube) = subst (All (λ dim. dim < length space.dimensions)) (sym dims) (valid.layout.in_range cube d h) in
    let count = length-axes_of space.dimensions (dims_of space cube) inside in
    let many = (valid.counts cube d h).0 in
    let long = length-map (axes space cube) (λ d. length d.elements) in
    omega (arith, count, many, long, ap length dims)
  where
    first : (shapes : List CubeShape) → 0 < length shapes → CubeShape
    first [] none = absurd (omega arith)
    first (shape ∷ rest) none = shape
