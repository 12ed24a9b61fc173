-- Graphs with weak and strict arrows, ranks that fit them, and walks that lead back to where they begin.
use Rattle.std.specs.Prelude.{◌≡◌, ℕ, ◌+◌, ◌<◌, ◌≤◌, true, Option, Some, List, [], ◌∷◌, length, slice_index, Any}
use Rattle.std.specs.Prelude.{if◌then◌else◌}
use Rattle.least_ranks.specs.declared.arrow.Arrow.{Arrow}
use Rattle.least_ranks.specs.declared.arrow.Step.{Step}

-- a graph: how many nodes it has, how many slots each of them has, and the arrow that a slot of a node holds
pub record Arrows : Type 0 where
  pub nodes : ℕ
  pub slots : ℕ → ℕ
  pub held : ℕ → ℕ → Option Arrow

-- there is this arrow from a node, in this slot of it
pub record IsArrow (graph : Arrows) (node slot : ℕ) (arrow : Arrow) : Type 0 where
  pub node_within : node < graph.nodes
  pub slot_within : slot < graph.slots node
  pub holds : graph.held node slot ≡ Some arrow

-- by how much ranks fall at least along an arrow
abbrev pub fall_of : Arrow → ℕ
fall_of arrow = if arrow.strict then 1 else 0

-- one rank for each node, and they fall along each strict arrow and don't rise along a weak one
pub record Fits (graph : Arrows) (ranks : List ℕ) : Type 0 where
  pub whole : length ranks ≡ graph.nodes
  pub falls : (node slot : ℕ) (arrow : Arrow) → IsArrow graph node slot arrow
      → slice_index ranks arrow.to + fall_of arrow ≤ slice_index ranks node

-- no ranks that fit are smaller at any node
abbrev pub IsLeast : Arrows → List ℕ → Type 0
IsLeast graph ranks = (others : List ℕ) → Fits graph others
    → (node : ℕ) → node < graph.nodes → slice_index ranks node ≤ slice_index others node

-- each step's arrow is there and leads to the node of the next step, and that of the last one to `to`
abbrev pub IsWalk : Arrows → List Step → ℕ → ℕ → Type 0
IsWalk graph [] from to = from ≡ to
IsWalk graph (step ∷ steps) from to = (step.node ≡ from)
    × ((arrow : Arrow) × IsArrow graph step.node step.slot arrow × IsWalk graph steps arrow.to to)

-- a step along a strict arrow
pub record IsStrictStep (graph : Arrows) (step : Step) : Type 0 where
  pub arrow : Arrow
  pub there : IsArrow graph step.node step.slot arrow
  pub strict : arrow.strict ≡ true

-- a walk that leads back to where it begins, with a step along a strict arrow
pub record IsClosedWalk (graph : Arrows) (steps : List Step) : Type 0 where
  pub start : ℕ
  pub walk : IsWalk graph steps start start
  pub strict : Any (IsStrictStep graph) steps
