use Rattle.std.proofs.Common.{◌≡◌, ◌-◌, max, length}
use Rattle.rule_model.specs.Order.{greatest}
use Rattle.check_order.specs.Inside.Tops.{cube_tops, top}
use Rattle.check_order.proofs.height.top.Given as goal

abbrev pub invariant-each : goal.invariant-each
invariant-each l =
    max (greatest (cube_tops l.model l.place l.cube (length l.model.space.cubes - l.cube))) l.most ≡ top l.model l.place
