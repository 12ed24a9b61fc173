use Rattle.std.proofs.Common.{sym, ◌∙◌}
use Rattle.rule_model.proofs.Statements.{listed_by}
use Rattle.feed_sources.proofs.AboveFacts.{listed-contains, contains-listed}
use Rattle.feed_sources.proofs.source.is_listed.Goals as goal

pub returns : goal.returns
returns c =
    let same = c.is_ok.ensures.value ∙ listed_by c.args.listed.now c.args.element c.binary_search.result c.requires c.binary_search.ensures.position in
    (λ on. listed-contains c.args.listed.now c.args.element (sym same ∙ on), λ has. same ∙ contains-listed c.args.listed.now c.args.element has)
