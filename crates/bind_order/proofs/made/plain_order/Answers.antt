use Rattle.std.proofs.Common.{sym, subst}
use Rattle.rule_model.specs.Conditions.{IsOrderOf}
use Rattle.bind_order.specs.Orders.{plain_order}
use Rattle.bind_order.proofs.OrderFacts.{plain-valid}
use Rattle.bind_order.proofs.made.plain_order.Goals as goal

pub returns-clause-valid : goal.returns-clause-valid
returns-clause-valid c space cube few held = subst (λ list. IsOrderOf space cube (plain_order list)) (sym c.new.ensures) (plain-valid space cube c.args.positions.items few held)
