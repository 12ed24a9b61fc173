use Rattle.std.proofs.Common.{◌-◌, length}
use Rattle.read_sources.proofs.reading.+moved_leaves.Given as goal

abbrev pub decreases-moved_leaves : goal.decreases-moved_leaves
decreases-moved_leaves l = length l.reference.now.args - l.from
