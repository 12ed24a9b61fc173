use Rattle.feed_check.proofs.References.{reference-is}
use Rattle.feed_check.proofs.cover.CoveredCoverCoverAnswers.covers.Goals as goal

pub is_covered-requires-clause-reference : goal.is_covered-requires-clause-reference
is_covered-requires-clause-reference c = reference-is c.args.self.now.model.now.space c.args.self.now.cube c.args.reference.now c.requires.known
