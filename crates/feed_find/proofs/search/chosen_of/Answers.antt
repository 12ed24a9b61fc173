use Rattle.feed_check.specs.Inside.References.{is_reference}
use Rattle.feed_check.proofs.Verdicts.{known}
use Rattle.feed_find.proofs.search.chosen_of.Goals as goal

pub needed-requires-clause-known : goal.needed-requires-clause-known
needed-requires-clause-known c =
    known c.args.model.now c.space-space.ensures.valid c.space-space.ensures.rules c.args.cube c.requires.cube c.args.statement.now c.requires.statement c.in-Some.formula c.in-Some.is (c.findings_rest_on_references.ensures.each c.in-Some.formula (is_reference c.args.model.now.space c.args.cube)).1
