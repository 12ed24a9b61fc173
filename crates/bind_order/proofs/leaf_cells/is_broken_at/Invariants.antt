use Rattle.std.proofs.Common.{◌≡◌, drop, false}
use Rattle.cube_space.specs.Layout.{axes}
use Rattle.bind_order.specs.Inside.Breaks.{breaks_at, have_pairs}
use Rattle.bind_order.proofs.leaf_cells.is_broken_at.Given as goal

abbrev pub invariant-loop-place : goal.invariant-loop-place
invariant-loop-place l = have_pairs (breaks_at l.front l.last) l.place l.some (drop l.place (axes l.space l.cube)) ≡ have_pairs (breaks_at l.front l.last) 0 false (axes l.space l.cube)
