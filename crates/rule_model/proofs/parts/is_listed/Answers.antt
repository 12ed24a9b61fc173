use Rattle.std.proofs.Common.{◌∙◌}
use Rattle.rule_model.proofs.Statements.{listed_by}
use Rattle.rule_model.proofs.parts.is_listed.Goals as goal

pub returns : goal.returns
returns c = c.is_ok.ensures.value ∙ listed_by c.args.listed.now c.args.element c.binary_search.result c.requires c.binary_search.ensures.position
