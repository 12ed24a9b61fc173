use Rattle.std.proofs.Common.{◌≡◌, ◌-◌, length, slice_get}
use Rattle.check_order.specs.Inside.Walk.{late_cubes}
use Rattle.check_order.proofs.late.first_late.Given as goal

abbrev pub invariant-each : goal.invariant-each
invariant-each l =
    slice_get (late_cubes l.model l.cube (length l.model.space.cubes - l.cube)) 0
    ≡ slice_get (late_cubes l.model 0 (length l.model.space.cubes)) 0
