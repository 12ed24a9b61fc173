use Rattle.std.proofs.Common.{◌-◌, length}
use Rattle.ref_order.proofs.named.+fixed_sum.Given as goal

abbrev pub decreases-fixed_sum : goal.decreases-fixed_sum
decreases-fixed_sum l = length l.reference.now.args - l.from
