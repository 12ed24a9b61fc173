use Rattle.std.proofs.Common.{◌≡◌, ◌∙◌, sym, ap, subst, List, length}
use Rattle.std.specs.List.{IsFirstBest}
use Rattle.least_ranks.specs.declared.arrow.Step.{Step}
use Rattle.least_ranks.specs.Graph.{IsClosedWalk}
use Rattle.order_find.specs.declared.link.Link.{Link}
use Rattle.order_find.specs.Slots.{Plan, arrows_of}
use Rattle.order_find.specs.PlanOfAll.{IsPlanOfAll}
use Rattle.order_find.specs.Circles.{IsCircle, BeginsLeast}
use Rattle.order_find.specs.Links.{links_of, begun_of, is_before}
use Rattle.order_find.proofs.Firsts.{begins-least, circle-some}
use Rattle.order_find.proofs.Turned.{turned}
use Rattle.order_find.proofs.Walked.{links-circle}
use Rattle.order_find.proofs.circle.circle.Goals as goal

links-are : (p : Plan) (steps begun : List Step) (links : List Link) → IsPlanOfAll p → IsClosedWalk (arrows_of p) steps → begun ≡ begun_of p steps → links ≡ links_of p begun → IsCircle p.model links
links-are p steps begun links plan closed same made = subst (IsCircle p.model) (sym (made ∙ ap (links_of p) same)) (links-circle p plan steps closed)

pub first_link-first-requires : goal.first_link-first-requires
first_link-first-requires c =
    let p = c.args.graph.now in
    let circle = links-are p c.args.steps.now c.deref.result.now c.in_ok-links.links.items c.requires.plan c.requires.closed (c.deref.ensures.value ∙ c.in_ok-begun.ensures) c.in_ok-links.ensures in
    circle-some p.model c.deref-2.result.now (subst (IsCircle p.model) (sym c.deref-2.ensures.value) circle)

pub returns-clause-circle : goal.returns-clause-circle
returns-clause-circle c =
    let p = c.args.graph.now in
    let circle = links-are p c.args.steps.now c.deref.result.now c.in_ok-links.links.items c.requires.plan c.requires.closed (c.deref.ensures.value ∙ c.in_ok-begun.ensures) c.in_ok-links.ensures in
    subst (IsCircle p.model) (sym c.rotate_left.ensures.items) (turned p.model c.first_link-first.result c.in_ok-links.links.items circle)

pub returns-clause-least : goal.returns-clause-least
returns-clause-least c =
    let p = c.args.graph.now in
    let circle = links-are p c.args.steps.now c.deref.result.now c.in_ok-links.links.items c.requires.plan c.requires.closed (c.deref.ensures.value ∙ c.in_ok-begun.ensures) c.in_ok-links.ensures in
    let best = c.first_link-first.result in
    let first = subst (λ (xs : List Link). IsFirstBest is_before xs (length xs) best) c.deref-2.ensures.value c.first_link-first.ensures in
    subst BeginsLeast (sym c.rotate_left.ensures.items) (begins-least p.model c.in_ok-links.links.items best circle first)
