use Rattle.std.proofs.Common.{◌≡◌, ◌++◌, ◌∙◌, List, length, map, sym, ap, subst}
use Rattle.std.specs.List.{range_with_len}
use Rattle.std.specs.Vec.Iter.{into_iter_items}
use Rattle.std.proofs.lemmas.List.{append-nil}
use Rattle.dim_core.proofs.BadAttributes.{taken_front, nothing_left}
use Rattle.rule_model.specs.declared.order.Order.{Order}
use Rattle.model_bind.proofs.Reordered.{reordered, all-reordered}
use Rattle.model_bind.proofs.ranking.in_orders.Goals as goal

pub returns : goal.returns
returns c =
    let rules = c.args.rules.items in
    let seen = c.loop-order.yielded in
    let now = c.loop-order.rules.items in
    let parts : c.args.orders.items ≡ seen ++ into_iter_items c.loop-order.order-iterator =
    sym c.into_iter-order-iterator.ensures.into_iter_gives.0 ∙ taken_front c.into_iter-order-iterator.result seen c.loop-order.order-iterator c.loop-order.yielded_by in
    let all : c.args.orders.items ≡ seen = parts ∙ ap (λ rest. seen ++ rest) (nothing_left (into_iter_items c.loop-order.order-iterator) (sym c.loop-order.order-iterator.rest.ok.0 ∙ c.in-None.ensures.steps.0)) ∙ append-nil seen in
    subst (λ (orders : List Order). now ≡ map (reordered rules orders) (range_with_len 0 (length rules))) (sym all)
    (all-reordered rules seen now c.loop-order.invariant.reordered (ap length (sym all) ∙ c.requires))
