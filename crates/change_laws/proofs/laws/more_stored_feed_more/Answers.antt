use Rattle.change_laws.proofs.Changes.{more-fed}
use Rattle.change_laws.proofs.laws.more_stored_feed_more.Goals as goal

pub returns : goal.returns
returns c = more-fed
