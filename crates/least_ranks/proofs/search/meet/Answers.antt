use Rattle.std.proofs.Common.{◌≡◌, ◌<◌, ℕ, sym, ◌∙◌, subst, slice_index, length, refl}
use Rattle.least_ranks.specs.declared.state.State.TheVariants.{New}
use Rattle.least_ranks.specs.Inside.Trails.{Trail, state_of}
use Rattle.least_ranks.specs.Inside.Sound.{IsSound, LeadsTo, IsMet, StaysAt}
use Rattle.least_ranks.proofs.EnterFacts.{IsSound-entered, StaysAt-entered, IsMet-entered}
use Rattle.least_ranks.proofs.JoinFacts.{IsSound-joined, StaysAt-joined, IsTop-joined, work_left-joined}
use Rattle.least_ranks.proofs.Trodden.{top-within, top-reached, LeadsTo-then}
use Rattle.least_ranks.proofs.search.meet.Goals as goal

pub returns-in_ok-enter-in-New-clause-sound : goal.returns-in_ok-enter-in-New-clause-sound
returns-in_ok-enter-in-New-clause-sound g c =
    let graph = g.G.Graph.arrows c.args.graph.now in
    let fresh : state_of c.args.walk.now c.args.to ≡ New = sym c.state.ensures ∙ c.in-New.is in
    let led : (k : ℕ) → k < length c.args.walk.now.path → LeadsTo graph (slice_index c.args.walk.now.path k) c.args.to =
    λ k there. LeadsTo-then graph (slice_index c.args.walk.now.path k)
    (slice_index c.args.walk.now.path c.args.place) c.args.to
    (top-reached graph c.args.walk.now c.requires.sound c.args.place c.requires.top k there) c.requires.leads in
    subst (λ t. IsSound graph t) (sym c.in_ok-enter-in-New.ensures)
    (IsSound-entered graph c.args.walk.now c.args.to c.requires.sound c.requires.to fresh led)

pub returns-in_ok-enter-in-New-clause-met : goal.returns-in_ok-enter-in-New-clause-met
returns-in_ok-enter-in-New-clause-met g c =
    let graph = g.G.Graph.arrows c.args.graph.now in
    let fresh : state_of c.args.walk.now c.args.to ≡ New = sym c.state.ensures ∙ c.in-New.is in
    let within = top-within graph c.args.walk.now c.requires.sound c.args.place c.requires.top in
    subst (λ (t : Trail). IsMet t.parts c.args.place (state_of t c.args.to)) (sym c.in_ok-enter-in-New.ensures)
    (IsMet-entered graph c.args.walk.now c.args.to c.requires.sound c.requires.to fresh c.args.place within)

pub returns-in_ok-enter-in-New-clause-stays : goal.returns-in_ok-enter-in-New-clause-stays
returns-in_ok-enter-in-New-clause-stays g c =
    let graph = g.G.Graph.arrows c.args.graph.now in
    let within = top-within graph c.args.walk.now c.requires.sound c.args.place c.requires.top in
    subst (λ t. StaysAt c.args.walk.now t c.args.place) (sym c.in_ok-enter-in-New.ensures)
    (StaysAt-entered graph c.args.walk.now c.args.to c.requires.sound c.requires.to
    (sym c.state.ensures ∙ c.in-New.is) c.args.place within)

pub returns-in-Waiting-clause-sound : goal.returns-in-Waiting-clause-sound
returns-in-Waiting-clause-sound g c =
    let graph = g.G.Graph.arrows c.args.graph.now in
    let at = c.requires.sound.placed.at c.args.to c.in-Waiting.at (sym c.state.ensures ∙ c.in-Waiting.is) in
    let led =
    subst (λ x. LeadsTo graph (slice_index c.args.walk.now.path c.args.place) x) (sym at.1) c.requires.leads in
    IsSound-joined graph c.args.walk.now c.join.new.self c.requires.sound c.args.place c.requires.top c.in-Waiting.at
    at.0 led c.join.ensures

pub returns-in-Waiting-clause-stays : goal.returns-in-Waiting-clause-stays
returns-in-Waiting-clause-stays g c =
    let graph = g.G.Graph.arrows c.args.graph.now in
    let at = c.requires.sound.placed.at c.args.to c.in-Waiting.at (sym c.state.ensures ∙ c.in-Waiting.is) in
    let led =
    subst (λ x. LeadsTo graph (slice_index c.args.walk.now.path c.args.place) x) (sym at.1) c.requires.leads in
    StaysAt-joined graph c.args.walk.now c.join.new.self c.requires.sound c.args.place c.requires.top c.in-Waiting.at
    at.0 led c.join.ensures

pub returns-in-Waiting-clause-went : goal.returns-in-Waiting-clause-went
returns-in-Waiting-clause-went g c =
    let graph = g.G.Graph.arrows c.args.graph.now in
    let at = c.requires.sound.placed.at c.args.to c.in-Waiting.at (sym c.state.ensures ∙ c.in-Waiting.is) in
    let led =
    subst (λ x. LeadsTo graph (slice_index c.args.walk.now.path c.args.place) x) (sym at.1) c.requires.leads in (
      IsTop-joined graph c.args.walk.now c.join.new.self c.requires.sound c.args.place c.requires.top c.in-Waiting.at
          at.0 led c.join.ensures,
      work_left-joined graph c.args.walk.now c.join.new.self c.requires.sound c.args.place c.requires.top
          c.in-Waiting.at at.0 led c.join.ensures,
    )

pub returns-in-Ranked-clause-stays : goal.returns-in-Ranked-clause-stays
returns-in-Ranked-clause-stays g c =
    let within =
    top-within (g.G.Graph.arrows c.args.graph.now) c.args.walk.now c.requires.sound c.args.place c.requires.top in
    record { within = within; node = refl; slots = refl }
