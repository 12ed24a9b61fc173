use Rattle.std.proofs.Common.{◌-◌, length}
use Rattle.feed_cover.proofs.named.+name_leaves.Given as goal

abbrev pub decreases-name_leaves : goal.decreases-name_leaves
decreases-name_leaves l = length l.view.reference.now.args - l.place
