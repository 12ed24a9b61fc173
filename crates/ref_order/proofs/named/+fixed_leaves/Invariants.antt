use Rattle.std.proofs.Common.{◌-◌, length}
use Rattle.ref_order.proofs.named.+fixed_leaves.Given as goal

abbrev pub decreases-fixed_leaves : goal.decreases-fixed_leaves
decreases-fixed_leaves l = length l.reference.now.args - l.from
