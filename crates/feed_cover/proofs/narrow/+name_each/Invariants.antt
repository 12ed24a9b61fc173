use Rattle.std.proofs.Common.{◌-◌, length}
use Rattle.feed_cover.proofs.narrow.+name_each.Given as goal

abbrev pub decreases-name_each : goal.decreases-name_each
decreases-name_each l = length l.view.reference.now.args - l.place
