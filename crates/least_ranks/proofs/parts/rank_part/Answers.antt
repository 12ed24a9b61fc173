use Rattle.std.proofs.Common.{◌<◌, ℕ, List, All, sym, subst, arith}
use Rattle.std.proofs.lemmas.List.{get_or_default}
use Rattle.least_ranks.specs.Inside.Trails.{work_left}
use Rattle.least_ranks.specs.Inside.Sound.{IsSound, IsLater}
use Rattle.least_ranks.specs.Inside.Bounds.{IsInside, IsOver, IsLowestOfSome}
use Rattle.least_ranks.proofs.SettleFacts.{start-within, are-inside, IsSound-settled, work_left-settled}
use Rattle.least_ranks.proofs.SettleFacts.{IsLater-settled}
use Rattle.least_ranks.proofs.parts.rank_part.Goals as goal

pub rank_over-requires-clause-inside : goal.rank_over-requires-clause-inside
rank_over-requires-clause-inside g c =
    let graph = g.G.Graph.arrows c.args.graph.now in
    subst (λ (xs : List ℕ). All (IsInside graph c.args.walk.now) xs) (sym c.part.ensures)
    (are-inside graph c.args.walk.now c.args.start c.requires.sound c.requires.last c.requires.idle)

pub settle-requires-clause-start : goal.settle-requires-clause-start
settle-requires-clause-start g c =
    start-within
    (g.G.Graph.arrows c.args.graph.now) c.args.walk.now c.args.start c.requires.sound c.requires.last c.requires.idle

pub settle-requires-clause-nodes : goal.settle-requires-clause-nodes
settle-requires-clause-nodes g c k d within =
    let here = c.requires.sound.placed.within k within in
    omega (arith, here, c.requires.sound.placed.whole, get_or_default c.args.walk.now.path k d 0 within)

pub returns-clause-sound : goal.returns-clause-sound
returns-clause-sound g c =
    let graph = g.G.Graph.arrows c.args.graph.now in
    let over =
    subst
    (λ (xs : List ℕ). All (IsOver graph c.args.walk.now c.in_ok-rank.rank) xs) c.part.ensures
    c.in_ok-rank.ensures.over in
    let lowest =
    subst (λ (xs : List ℕ). IsLowestOfSome graph xs c.in_ok-rank.rank) c.part.ensures c.in_ok-rank.ensures.lowest in
    let sound =
    IsSound-settled graph c.args.walk.now c.args.start c.requires.sound c.requires.last c.requires.idle
    c.in_ok-rank.rank over lowest c.in_ok-rank.ensures.small in
    subst (λ t. IsSound graph t) (sym c.settle.ensures) sound

pub returns-clause-less : goal.returns-clause-less
returns-clause-less g c =
    let graph = g.G.Graph.arrows c.args.graph.now in
    let over =
    subst
    (λ (xs : List ℕ). All (IsOver graph c.args.walk.now c.in_ok-rank.rank) xs) c.part.ensures
    c.in_ok-rank.ensures.over in
    let lowest =
    subst (λ (xs : List ℕ). IsLowestOfSome graph xs c.in_ok-rank.rank) c.part.ensures c.in_ok-rank.ensures.lowest in
    let less =
    work_left-settled graph c.args.walk.now c.args.start c.requires.sound c.requires.last c.requires.idle
    c.in_ok-rank.rank over lowest c.in_ok-rank.ensures.small in
    subst (λ t. work_left t < work_left c.args.walk.now) (sym c.settle.ensures) less

pub returns-clause-later : goal.returns-clause-later
returns-clause-later g c =
    let graph = g.G.Graph.arrows c.args.graph.now in
    let over =
    subst
    (λ (xs : List ℕ). All (IsOver graph c.args.walk.now c.in_ok-rank.rank) xs) c.part.ensures
    c.in_ok-rank.ensures.over in
    let lowest =
    subst (λ (xs : List ℕ). IsLowestOfSome graph xs c.in_ok-rank.rank) c.part.ensures c.in_ok-rank.ensures.lowest in
    let later =
    IsLater-settled graph c.args.walk.now c.args.start c.requires.sound c.requires.last c.requires.idle
    c.in_ok-rank.rank over lowest c.in_ok-rank.ensures.small in
    subst (λ t. IsLater c.args.walk.now t) (sym c.settle.ensures) later
