-- What holds at each turn of a walk over a graph.
use Rattle.std.specs.Prelude.{◌≡◌, ℕ, ◌+◌, ◌^◌, ◌<◌, ◌≤◌, Bool, true, false, List, All, Contains, length, slice_index}
use Rattle.least_ranks.specs.declared.arrow.Arrow.{Arrow}
use Rattle.least_ranks.specs.declared.state.State.{State}
use Rattle.least_ranks.specs.declared.state.State.TheVariants.{New, Waiting, Ranked}
use Rattle.least_ranks.specs.Graph.{Arrows, IsArrow, Fits, fall_of}
use Rattle.least_ranks.specs.Inside.States.{is_new}
use Rattle.least_ranks.specs.Inside.Trails.{Trail, state_of, state_in, new_count, work_left, IsRising, IsTop}

-- numbers of nodes that rise along no arrow
abbrev pub NeverRises : Arrows → (ℕ → ℕ) → Type 0
NeverRises graph height = (node slot : ℕ) (arrow : Arrow) → IsArrow graph node slot arrow
    → height arrow.to ≤ height node

-- arrows lead from the first node to the second, one or more or none: what rises along no arrow isn't greater there
abbrev pub LeadsTo : Arrows → ℕ → ℕ → Type 0
LeadsTo graph from to = (height : ℕ → ℕ) → NeverRises graph height → height to ≤ height from

-- no part begins after the first place up to the second
abbrev pub IsTogether : List ℕ → ℕ → ℕ → Type 0
IsTogether parts low high = (start : ℕ) → Contains parts start → low < start → start ≤ high → ⊥

-- what an arrow from this place of the path may lead to once it is passed
abbrev pub IsMet : List ℕ → ℕ → State → Type 0
IsMet parts place New = ⊥
IsMet parts place (Waiting target) = IsTogether parts target place
IsMet parts place (Ranked rank) = Unit {0}

-- the target of an arrow has a rank that lets the arrow's node have this rank
abbrev pub LetsHave : ℕ → ℕ → State → Type 0
LetsHave rank fall New = ⊥
LetsHave rank fall (Waiting place) = ⊥
LetsHave rank fall (Ranked target) = target + fall ≤ rank

-- the nodes of the path wait at their places, and no others wait
pub record ArePlaced (graph : Arrows) (states : List State) (path : List ℕ) : Type 0 where
  pub whole : length states ≡ graph.nodes
  pub within : (place : ℕ) → place < length path → slice_index path place < graph.nodes
  pub waits : (place : ℕ) → place < length path → state_in states (slice_index path place) ≡ Waiting place
  pub at : (node place : ℕ) → state_in states node ≡ Waiting place
      → (place < length path) × (slice_index path place ≡ node)

-- the parts of a path of this length
pub record AreParts (long : ℕ) (parts : List ℕ) : Type 0 where
  pub rise : IsRising parts
  pub within : All (λ start. start < long) parts
  pub first : 0 < long → Contains parts 0

-- the places with slots left
pub record AreBusy (graph : Arrows) (path passed busy : List ℕ) : Type 0 where
  pub rise : IsRising busy
  pub within : All (λ place. place < length path) busy
  pub done : (place : ℕ) → place < length path → (Contains busy place → ⊥)
      → graph.slots (slice_index path place) ≤ slice_index passed place

-- what the passed arrows lead to
pub record ArePassed (graph : Arrows) (states : List State) (path passed parts : List ℕ) : Type 0 where
  pub long : length passed ≡ length path
  pub met : (place : ℕ) → place < length path → (slot : ℕ) (arrow : Arrow) → slot < slice_index passed place
      → IsArrow graph (slice_index path place) slot arrow → IsMet parts place (state_in states arrow.to)

-- from each node of the path arrows lead to those after it, and to the others of its part
abbrev pub AreJoined : Arrows → List ℕ → List ℕ → Type 0
AreJoined graph path parts = (low high : ℕ) → low < length path → high < length path → IsTogether parts low high
    → LeadsTo graph (slice_index path high) (slice_index path low)

-- the ranks of those that have one fit among themselves, and are least
pub record AreRanked (graph : Arrows) (states : List State) : Type 0 where
  pub fits : (node rank : ℕ) → state_in states node ≡ Ranked rank → (slot : ℕ) (arrow : Arrow)
      → IsArrow graph node slot arrow → LetsHave rank (fall_of arrow) (state_in states arrow.to)
  pub least : (node rank : ℕ) → state_in states node ≡ Ranked rank → (others : List ℕ) → Fits graph others
      → rank ≤ slice_index others node

-- there are more nodes with a rank than ranks
pub record AreSmall (graph : Arrows) (trail : Trail) : Type 0 where
  pub few : graph.nodes < 2 ^ 32
  pub room : new_count trail + length trail.path ≤ graph.nodes
  pub small : (node rank : ℕ) → state_of trail node ≡ Ranked rank
      → rank + (new_count trail + length trail.path) < graph.nodes

pub record IsSound (graph : Arrows) (trail : Trail) : Type 0 where
  pub placed : ArePlaced graph trail.states trail.path
  pub parts : AreParts (length trail.path) trail.parts
  pub busy : AreBusy graph trail.path trail.passed trail.busy
  pub passed : ArePassed graph trail.states trail.path trail.passed trail.parts
  pub joined : AreJoined graph trail.path trail.parts
  pub ranked : AreRanked graph trail.states
  pub small : AreSmall graph trail

-- a walk only reaches more nodes
abbrev pub IsLater : Trail → Trail → Type 0
IsLater old new = (node : ℕ) → is_new (state_of old node) ≡ false → is_new (state_of new node) ≡ false

-- what the arrow in this slot of the node at this place leads to is met
abbrev pub IsSlotMet : Arrows → Trail → ℕ → ℕ → Type 0
IsSlotMet graph trail place slot = (arrow : Arrow) → IsArrow graph (slice_index trail.path place) slot arrow
    → IsMet trail.parts place (state_of trail arrow.to)

-- at a place of the path all is as before
pub record StaysAt (old new : Trail) (place : ℕ) : Type 0 where
  pub within : place < length new.path
  pub node : slice_index new.path place ≡ slice_index old.path place
  pub slots : slice_index new.passed place ≡ slice_index old.passed place

-- where the walk has come to a new node, less of it is to come; otherwise it is where it was
abbrev pub HasGone : Trail → Trail → ℕ → Bool → Type 0
HasGone old new place true = work_left new < work_left old
HasGone old new place false = IsTop new place × (work_left new ≤ work_left old)
