use Rattle.bind_laws.proofs.RuleFacts.{rules_valid}
use Rattle.bind_laws.proofs.bound_rules_meet_the_conditions.Goals as goal

pub returns : goal.returns
returns c space cube text rules valid low within is = rules_valid space cube valid low text rules within is
