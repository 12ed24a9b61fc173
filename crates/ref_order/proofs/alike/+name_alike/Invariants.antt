use Rattle.std.proofs.Common.{◌-◌, length}
use Rattle.ref_order.proofs.alike.+name_alike.Given as goal

abbrev pub decreases-name_alike : goal.decreases-name_alike
decreases-name_alike l = length l.one.now.args - l.from
