use Rattle.std.proofs.Common.{◌∙◌, ap, sym, is_ok}
use Rattle.rule_model.proofs.Statements.{listed_by}
use Rattle.rule_notes.proofs.areas.place_in.Goals as goal

pub returns-in-Ok-clause-listed : goal.returns-in-Ok-clause-listed
returns-in-Ok-clause-listed c = ap is_ok (sym c.in-Ok.is) ∙ listed_by c.args.listed.now c.args.element c.binary_search.result c.requires c.binary_search.ensures.position

pub returns-in-Err-clause-listed : goal.returns-in-Err-clause-listed
returns-in-Err-clause-listed c = ap is_ok (sym c.in-Err.is) ∙ listed_by c.args.listed.now c.args.element c.binary_search.result c.requires c.binary_search.ensures.position
