use Rattle.feed_cover.proofs.OneTests.{nothing-kept}
use Rattle.feed_cover.proofs.overs.no_overs.Goals as goal

pub returns : goal.returns
returns c = λ model view dim place to k known at. absurd (nothing-kept 64 k known at)
