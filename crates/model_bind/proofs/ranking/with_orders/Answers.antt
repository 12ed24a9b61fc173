use Rattle.std.proofs.Common.{◌≡◌, Result, Ok, Err, IfOk, List, length, map, sym, subst}
use Rattle.std.specs.List.{range_with_len}
use Rattle.rule_model.specs.declared.rules.CubeRules.{CubeRules}
use Rattle.rule_model.specs.BoundModel.{BoundModel}
use Rattle.rule_model.specs.Conditions.{AreRules}
use Rattle.model_bind.specs.Binding.{IsRanked}
use Rattle.model_bind.proofs.Reordered.{reordered, are-rules, is-ranked}
use Rattle.model_bind.proofs.ranking.with_orders.Goals as goal

pub of-requires-clause-rules : goal.of-requires-clause-rules
of-requires-clause-rules c =
    let model = c.args.model in
    let orders = c.args.orders.items in
    let own = are-rules model orders c.space-space.ensures.valid c.space-space.ensures.rules c.requires.found c.fitting_ranks_make_orders.ensures c.requires.one_lag in
    let parts = subst (λ (m : BoundModel). AreRules m.space (map (reordered m.rules orders) (range_with_len 0 (length m.rules)))) c.into_parts-space.ensures.model own in
    subst (λ (rules : List CubeRules). AreRules c.into_parts-space.result.0 rules) (sym c.in_orders-rules.ensures) parts

-- where the model is made, it is the one with the orders
made : {E : Type 0} (model it : BoundModel) (answer : Result BoundModel E) → IsRanked model it → IfOk answer (λ m. m ≡ it) → IfOk answer (IsRanked model)
made model it (Ok m) ranked is = subst (IsRanked model) (sym is) ranked
made model it (Err e) ranked is = tt

pub returns : goal.returns
returns c =
    let model = c.args.model in
    let orders = c.args.orders.items in
    let own = is-ranked model orders c.space-space.ensures.valid c.space-space.ensures.rules c.requires.found in
    let parts = subst (λ (m : BoundModel). IsRanked model (record { space = m.space; rules = map (reordered m.rules orders) (range_with_len 0 (length m.rules)) })) c.into_parts-space.ensures.model own in
    let ranked = subst (λ (rules : List CubeRules). IsRanked model (record { space = c.into_parts-space.result.0; rules = rules })) (sym c.in_orders-rules.ensures) parts in
    made model (record { space = c.into_parts-space.result.0; rules = c.in_orders-rules.result.items }) c.of.result ranked c.of.ensures
