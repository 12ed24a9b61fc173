use Rattle.std.proofs.Common.{◌-◌, length}
use Rattle.feed_cover.proofs.possible.+fixed_count.Given as goal

abbrev pub decreases-fixed_count : goal.decreases-fixed_count
decreases-fixed_count l = length l.view.reference.now.args - l.place
