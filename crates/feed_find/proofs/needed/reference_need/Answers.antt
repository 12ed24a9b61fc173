use Rattle.feed_check.proofs.References.{reference-is}
use Rattle.feed_find.proofs.needed.reference_need.Goals as goal

pub choose-requires-clause-reference : goal.choose-requires-clause-reference
choose-requires-clause-reference c = reference-is c.args.asked.model.now.space c.args.asked.cube c.args.reference.now c.requires.known
