use Rattle.rule_evaluate.proofs.AskedFacts.{all-pass}
use Rattle.rule_evaluate.proofs.laws.only_what_formulas_read_is_asked.Goals as goal

pub returns : goal.returns
returns g w t c may rules own read = all-pass w t c may own rules read
