use Rattle.feed_turn.proofs.Law.{turned-covers}
use Rattle.feed_turn.proofs.laws.turned_feeders_cover.Goals as goal

pub returns : goal.returns
returns c m cube area r statement feeder valid there is_area is found = turned-covers m valid cube there area is_area r is statement feeder found
