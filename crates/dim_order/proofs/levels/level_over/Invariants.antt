use Rattle.std.proofs.Common.{◌≡◌, take, slice_index}
use Rattle.dim_order.specs.Levels.{level_over}
use Rattle.dim_order.proofs.levels.level_over.Given as goal

abbrev pub invariant-loop-part : goal.invariant-loop-part
invariant-loop-part l = l.greatest ≡ level_over (slice_index l.levels) (take l.part-index l.parts)
