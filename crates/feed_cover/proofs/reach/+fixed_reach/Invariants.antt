use Rattle.std.proofs.Common.{◌-◌, length}
use Rattle.feed_cover.proofs.reach.+fixed_reach.Given as goal

abbrev pub decreases-fixed_reach : goal.decreases-fixed_reach
decreases-fixed_reach l = length l.target.now.args - l.dim
