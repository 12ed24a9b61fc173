use Rattle.std.proofs.Common.{Bool, List, subst, arith}
use Rattle.std.proofs.lemmas.List.{nil_from_length}
use Rattle.least_ranks.specs.Inside.Ways.{IsSeenUpTo, IsUnseen}
use Rattle.least_ranks.proofs.WayFacts.{on-search, back-search, no-way}
use Rattle.least_ranks.proofs.cycle.way.Goals as goal

pub steps-preserved-in-Some : goal.steps-preserved-in-Some
steps-preserved-in-Some g c =
    let graph = g.G.Graph.arrows c.args.graph.now in
    let unseen =
    subst
    (λ (xs : List Bool). IsUnseen graph xs c.steps.here.node c.in-Some.slot c.in-Some.next) c.deref.ensures.value
    c.in-Some.ensures.some in
    let on =
    on-search graph c.args.from c.args.to c.steps.seen.items c.steps.steps.items c.steps.here c.steps.invariant
    c.steps-test.true c.in-Some.slot c.in-Some.next unseen in
    rw c.in_ok-push-in-Some.ensures.items on

pub steps-preserved : goal.steps-preserved
steps-preserved g c =
    let graph = g.G.Graph.arrows c.args.graph.now in
    let all =
    subst
    (λ (xs : List Bool). IsSeenUpTo graph xs c.steps.here.node (graph.slots c.steps.here.node))
    c.deref.ensures.value c.in-None.ensures.none in
    back-search graph c.args.from c.args.to c.steps.seen.items c.steps.steps.items c.steps.here c.steps.invariant
    c.steps-test.true all c.pop.new.self.items c.in-Some-pop.step c.in-Some-pop.ensures.items

pub returns-in-None-pop-clause-none : goal.returns-in-None-pop-clause-none
returns-in-None-pop-clause-none g c =
    let graph = g.G.Graph.arrows c.args.graph.now in
    let all =
    subst
    (λ (xs : List Bool). IsSeenUpTo graph xs c.steps.here.node (graph.slots c.steps.here.node))
    c.deref.ensures.value c.in-None.ensures.none in
    no-way graph c.args.from c.args.to c.steps.seen.items c.steps.steps.items c.steps.here c.steps.invariant
    c.steps-test.true all
    (nil_from_length c.steps.steps.items (omega (arith, c.in-None-pop.ensures.cases.0, c.steps.steps.ok.0)))
