use Rattle.std.proofs.Common.{◌-◌, length}
use Rattle.ref_order.proofs.named.+moved_from.Given as goal

abbrev pub decreases-moved_from : goal.decreases-moved_from
decreases-moved_from l = length l.reference.now.args - l.from
