use Rattle.std.proofs.Common.{◌-◌, length}
use Rattle.feed_cover.proofs.reach.+all_reach.Given as goal

abbrev pub decreases-all_reach : goal.decreases-all_reach
decreases-all_reach l = length l.target.now.args - l.dim
