-- Bound arguments whose numbers are in range.
use Rattle.std.specs.Prelude.{ℕ, ◌==◌, Bool, true, ◌&&◌, nat_lt, length, slice_index_or}
use Rattle.cube_fixed.specs.Range.{is_in_range}
use Rattle.cube_space.specs.Layout.{Layout, dims_of}
use Rattle.bind_arguments.specs.declared.bound_argument.BoundArgument.{BoundArgument, fold-BoundArgument}
use Rattle.bind_arguments.specs.declared.bound_argument.BoundArgument.TheOpen.{BoundArgument-F}

abbrev pub is_dimension : Layout → ℕ → Bool
is_dimension space dim = nat_lt dim (length space.dimensions)

-- a dimension of a cube at this place
abbrev pub is_placed : Layout → ℕ → ℕ → ℕ → Bool
is_placed space cube place dim =
    nat_lt place (length (dims_of space cube)) && (slice_index_or (dims_of space cube) place 0 == dim)

abbrev pub within_step : Layout → ℕ → BoundArgument-F Bool → Bool
within_step space cube (BoundArgument-F.Text name) = true
within_step space cube (BoundArgument-F.Current place dim) = is_dimension space dim && is_placed space cube place dim
within_step space cube (BoundArgument-F.AtIndex dim index) = is_dimension space dim
within_step space cube (BoundArgument-F.AtPlace dim source of shift) =
    of && is_dimension space dim && is_dimension space source && is_in_range shift
within_step space cube (BoundArgument-F.AttributeOf dim of attribute) = of && is_dimension space dim
within_step space cube (BoundArgument-F.RelativeOf dim of relative) = of && is_dimension space dim

-- dimensions are there, places are of the cube, and indices don't run over
unfoldable pub is_within : Layout → ℕ → BoundArgument → Bool
is_within space cube = fold-BoundArgument Bool (within_step space cube)
