-- The dimension of a cube that a name means.
use Rattle.std.specs.Prelude.{ℕ, List, Option, position}
use Rattle.dim_name.specs.Name.{is_same_name}
use Rattle.dim_core.specs.Outline.{Outline}

-- the place, among the dimensions of a cube, of the one that has this name
abbrev pub axis_called : List Outline → List ℕ → Option ℕ
axis_called dimensions name = position (λ dimension. is_same_name name dimension.name) dimensions
