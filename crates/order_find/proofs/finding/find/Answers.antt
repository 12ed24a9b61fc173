use Rattle.std.proofs.Common.{◌∙◌, sym, ap, subst, List, ℕ, length, map}
use Rattle.rule_model.specs.BoundModel.{BoundModel}
use Rattle.rule_model.specs.System.{cubes_of}
use Rattle.arrow_laws.specs.Ranked.{AreNodeRanks, order_by}
use Rattle.arrow_laws.specs.Arrows.{IsLevelThroughout}
use Rattle.order_find.specs.Cut.{all_ranks}
use Rattle.order_find.specs.Found.{AreFound}
use Rattle.order_find.proofs.Fitting.{nodes-are}
use Rattle.order_find.proofs.Least.{are-found}
use Rattle.order_find.proofs.finding.find.Goals as goal

pub orders-requires : goal.orders-requires
orders-requires c =
    let p = c.in_ok-graph.graph in
    ap length c.deref.ensures.value ∙ c.in-Ok.ensures.fits.whole ∙ nodes-are p

pub returns-in-Ok-clause-found : goal.returns-in-Ok-clause-found
returns-in-Ok-clause-found c =
    let p = c.in_ok-graph.graph in
    let same = c.in_ok-graph.ensures.model in
    let level = subst IsLevelThroughout (sym same) c.in_ok-graph.ensures.level in
    let made = c.in_ok-orders-in-Ok.ensures.made ∙ ap (λ xs. map (order_by p.model (all_ranks p xs)) (cubes_of p.model)) c.deref.ensures.value in
    let each = subst (λ (xs : List ℕ). AreNodeRanks p.model (all_ranks p xs)) c.deref.ensures.value c.in_ok-orders-in-Ok.ensures.ranks in
    subst (λ (m : BoundModel). AreFound m c.in_ok-orders-in-Ok.field-0.items) same
    (are-found p c.in-Ok.ranks.items c.in_ok-orders-in-Ok.field-0.items c.in_ok-graph.ensures.plan level c.in-Ok.ensures.fits c.in-Ok.ensures.least each made)
