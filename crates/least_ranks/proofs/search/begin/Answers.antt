use Rattle.std.proofs.Common.{◌≡◌, sym, ◌∙◌, subst, arith}
use Rattle.least_ranks.specs.declared.state.State.TheVariants.{New}
use Rattle.least_ranks.specs.Inside.Trails.{state_of}
use Rattle.least_ranks.specs.Inside.Sound.{IsSound}
use Rattle.least_ranks.proofs.EnterFacts.{IsSound-entered}
use Rattle.least_ranks.proofs.search.begin.Goals as goal

pub returns-in_ok-enter-clause-sound : goal.returns-in_ok-enter-clause-sound
returns-in_ok-enter-clause-sound g c =
    let graph = g.G.Graph.arrows c.args.graph.now in
    let fresh : state_of c.args.walk.now c.args.root ≡ New = sym c.state.ensures ∙ c.in-New.is in
    let sound = IsSound-entered graph c.args.walk.now c.args.root c.requires.sound c.requires.root fresh
    (λ k there. absurd (omega (arith, there, c.requires.idle))) in
    subst (λ t. IsSound graph t) (sym c.in_ok-enter.ensures) sound
