-- Ranks that nodes without one may have.
use Rattle.std.specs.Prelude.{◌≡◌, ℕ, ◌+◌, ◌<◌, ◌≤◌, false, ◌⊎◌, List, Contains, length, slice_index}
use Rattle.least_ranks.specs.declared.arrow.Arrow.{Arrow}
use Rattle.least_ranks.specs.declared.state.State.{State}
use Rattle.least_ranks.specs.declared.state.State.TheVariants.{New, Waiting, Ranked}
use Rattle.least_ranks.specs.Graph.{Arrows, IsArrow, Fits, fall_of}
use Rattle.least_ranks.specs.Inside.Trails.{Trail, state_of, new_count}
use Rattle.least_ranks.specs.Inside.Sound.{LeadsTo}

-- where an arrow may lead from a node whose slots are passed, by what is known of its target: to a node with a rank, or
-- to one from which arrows lead back
abbrev pub LeadsBack : Arrows → ℕ → ℕ → State → Type 0
LeadsBack graph node target New = ⊥
LeadsBack graph node target (Waiting place) = LeadsTo graph target node
LeadsBack graph node target (Ranked rank) = Unit {0}

-- the node's arrows lead to nodes that have a rank, or from which arrows lead back
pub record IsInside (graph : Arrows) (trail : Trail) (node : ℕ) : Type 0 where
  pub within : node < graph.nodes
  pub back : (slot : ℕ) (arrow : Arrow) → IsArrow graph node slot arrow
      → LeadsBack graph node arrow.to (state_of trail arrow.to)

-- an arrow lets its node have this rank, and all nodes without one too
abbrev pub IsOverArrow : ℕ → Arrow → State → Type 0
IsOverArrow rank arrow New = arrow.strict ≡ false
IsOverArrow rank arrow (Waiting place) = arrow.strict ≡ false
IsOverArrow rank arrow (Ranked target) = target + fall_of arrow ≤ rank

-- all arrows of a node do
abbrev pub IsOver : Arrows → Trail → ℕ → ℕ → Type 0
IsOver graph trail rank node = (slot : ℕ) (arrow : Arrow) → IsArrow graph node slot arrow
    → IsOverArrow rank arrow (state_of trail arrow.to)

-- a node has no smaller rank where ranks fit
abbrev pub IsLowest : Arrows → ℕ → ℕ → Type 0
IsLowest graph node rank = (others : List ℕ) → Fits graph others → rank ≤ slice_index others node

-- some node of these hasn't, or the rank is 0
abbrev pub IsLowestOfSome : Arrows → List ℕ → ℕ → Type 0
IsLowestOfSome graph nodes rank = (rank ≡ 0) ⊎ ((node : ℕ) × Contains nodes node × IsLowest graph node rank)

-- with one more rank there are still enough nodes
abbrev pub IsBound : Arrows → Trail → ℕ → Type 0
IsBound graph trail rank = rank + (new_count trail + length trail.path) ≤ graph.nodes
