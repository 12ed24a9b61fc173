use Rattle.std.proofs.Common.{◌≡◌, take, map, slice_index}
use Rattle.cube_space.proofs.numbering.sizes.Given as goal

abbrev pub invariant-loop-dim : goal.invariant-loop-dim
invariant-loop-dim l = l.sizes.items ≡ map (slice_index l.counts) (take l.dim-index l.dims)
