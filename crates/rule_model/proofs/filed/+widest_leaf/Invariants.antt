use Rattle.std.proofs.Common.{◌-◌, length}
use Rattle.rule_model.proofs.filed.+widest_leaf.Given as goal

abbrev pub decreases-widest_leaf : goal.decreases-widest_leaf
decreases-widest_leaf l = length l.target.now.args - l.dim
