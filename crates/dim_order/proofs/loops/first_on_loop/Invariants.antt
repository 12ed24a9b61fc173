use Rattle.std.proofs.Common.{◌≡◌, ◌<◌, ℕ, false}
use Rattle.dim_order.specs.Loops.{lies_on_loop}
use Rattle.dim_order.proofs.loops.first_on_loop.Given as goal

abbrev pub invariant-loop-element : goal.invariant-loop-element
invariant-loop-element l = (k : ℕ) → k < l.element → lies_on_loop l.lists k ≡ false
