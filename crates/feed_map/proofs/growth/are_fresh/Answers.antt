use Rattle.feed_map.proofs.Fresh.{fresh-all, not-falling}
use Rattle.feed_map.proofs.growth.are_fresh.Goals as goal

pub are_beyond-requires : goal.are_beyond-requires
are_beyond-requires c = not-falling c.args.found.now (c.is_rising.ensures c.if-not-is_rising.false)

pub returns : goal.returns
returns c = λ beyond. fresh-all c.args.known.now c.args.found.now (c.is_rising.ensures c.if-not-is_rising.false) (c.are_beyond.ensures beyond)
