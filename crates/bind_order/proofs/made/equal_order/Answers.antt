use Rattle.std.proofs.Common.{◌∙◌, Some, sym, subst}
use Rattle.rule_model.specs.Conditions.{IsOrderOf}
use Rattle.bind_order.proofs.OrderFacts.{equal-valid}
use Rattle.bind_order.proofs.made.equal_order.Goals as goal

pub returns-clause-valid : goal.returns-clause-valid
returns-clause-valid c space cube few held =
    subst (λ list. IsOrderOf space cube (record { positions = list; totals = Some c.new-2.result })) (sym c.new.ensures)
    (subst (λ list. IsOrderOf space cube (record { positions = c.args.positions.items; totals = Some list })) (sym (c.new-2.ensures ∙ c.requires)) (equal-valid space cube c.args.positions.items few held))
