use Rattle.std.proofs.Common.{◌≡◌, ◌<◌, ◌+◌, ℕ, true, slice_index}
use Rattle.dim_order.specs.Inside.Ranks.{are_below}
use Rattle.dim_order.specs.Loops.{parts_of}
use Rattle.dim_order.proofs.ranks.are_ranks.Given as goal

abbrev pub invariant-loop-element : goal.invariant-loop-element
invariant-loop-element l = (k : ℕ) → k < l.element → are_below l.ranks (slice_index l.ranks k + 1) (parts_of l.lists k) ≡ true
