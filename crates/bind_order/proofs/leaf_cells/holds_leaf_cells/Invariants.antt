use Rattle.std.proofs.Common.{◌≡◌, ◌<◌, ℕ, false}
use Rattle.cube_space.specs.Layout.{axes}
use Rattle.bind_order.proofs.BreakFacts.{is_broken}
use Rattle.bind_order.proofs.leaf_cells.holds_leaf_cells.Given as goal

abbrev pub invariant-loop-place : goal.invariant-loop-place
invariant-loop-place l = (k : ℕ) → k < l.place → is_broken (axes l.space l.cube) l.positions k ≡ false
