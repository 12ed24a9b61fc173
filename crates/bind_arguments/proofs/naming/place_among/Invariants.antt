use Rattle.std.proofs.Common.{◌≡◌, ◌<◌, ℕ, false, get_or}
use Rattle.dim_name.specs.Name.{is_same_name}
use Rattle.bind_arguments.specs.Bound.{dimension_at}
use Rattle.bind_arguments.proofs.naming.place_among.Given as goal

-- no dimension before has the name
abbrev pub invariant-loop-place : goal.invariant-loop-place
invariant-loop-place l = (k : ℕ) → k < l.place → is_same_name l.name (dimension_at l.space (get_or l.dims k 0)).name ≡ false
