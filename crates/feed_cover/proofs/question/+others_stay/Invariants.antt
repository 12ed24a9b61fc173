use Rattle.std.proofs.Common.{◌-◌, length}
use Rattle.feed_cover.proofs.question.+others_stay.Given as goal

abbrev pub decreases-others_stay : goal.decreases-others_stay
decreases-others_stay l = length l.args.now - l.from
