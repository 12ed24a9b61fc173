use Rattle.std.proofs.Common.{◌-◌, length}
use Rattle.feed_cover.proofs.named.+name_sources.Given as goal

abbrev pub decreases-name_sources : goal.decreases-name_sources
decreases-name_sources l = length l.view.reference.now.args - l.place
