use Rattle.std.proofs.Common.{◌∙◌, sym}
use Rattle.feed_check.specs.Inside.References.{is_reference}
use Rattle.feed_check.proofs.Verdicts.{known, verdict-covered, verdict-blamed}
use Rattle.feed_check.proofs.statement.blamed_in.Goals as goal

pub zero_verdict-requires-clause-known : goal.zero_verdict-requires-clause-known
zero_verdict-requires-clause-known c =
    known c.args.model.now c.space-space.ensures.valid c.space-space.ensures.rules c.args.cube c.requires.cube c.args.statement.now c.requires.statement c.in-Some.formula c.in-Some.is (c.findings_rest_on_references.ensures.each c.in-Some.formula (is_reference c.args.model.now.space c.args.cube)).1

pub returns-in-Ok-clause-covered : goal.returns-in-Ok-clause-covered
returns-in-Ok-clause-covered c none =
    verdict-covered c.args.model.now c.space-space.ensures.valid c.space-space.ensures.rules c.args.cube c.requires.cube c.args.statement.now c.requires.statement c.in-Some.formula c.in-Some.is (sym c.zero_verdict.ensures.verdict ∙ c.in-Ok.is)

pub returns-in-Err-clause-blamed : goal.returns-in-Err-clause-blamed
returns-in-Err-clause-blamed c =
    verdict-blamed c.args.model.now c.space-space.ensures.valid c.space-space.ensures.rules c.args.cube c.requires.cube c.args.statement.now c.requires.statement c.in-Some.formula c.in-Some.is (c.findings_rest_on_references.ensures.zero c.in-Some.formula) c.requires.skips c.in-Err.operand (sym c.zero_verdict.ensures.verdict ∙ c.in-Err.is)
