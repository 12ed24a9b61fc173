-- The search for a walk from a node to another one.
use Rattle.std.specs.Prelude.{◌≡◌, ℕ, ◌<◌, true, false, Bool, List, slice_index_or}
use Rattle.least_ranks.specs.declared.arrow.Arrow.{Arrow}
use Rattle.least_ranks.specs.declared.arrow.Step.{Step}
use Rattle.least_ranks.specs.Graph.{Arrows, IsArrow}

-- a step along a strict arrow to this node
pub record IsStrictTo (graph : Arrows) (step : Step) (to : ℕ) : Type 0 where
  pub arrow : Arrow
  pub there : IsArrow graph step.node step.slot arrow
  pub strict : arrow.strict ≡ true
  pub leads : arrow.to ≡ to

abbrev pub is_seen : List Bool → ℕ → Bool
is_seen seen node = slice_index_or seen node false

-- the arrows in the first so many slots of a node lead to nodes that are seen
abbrev pub IsSeenUpTo : Arrows → List Bool → ℕ → ℕ → Type 0
IsSeenUpTo graph seen node count = (slot : ℕ) (arrow : Arrow) → slot < count → IsArrow graph node slot arrow
    → is_seen seen arrow.to ≡ true

-- the arrow in this slot of a node leads to this node, which isn't seen; those in the slots before lead to nodes that
-- are
pub record IsUnseen (graph : Arrows) (seen : List Bool) (node slot to : ℕ) : Type 0 where
  pub arrow : Arrow
  pub there : IsArrow graph node slot arrow
  pub leads : arrow.to ≡ to
  pub within : to < graph.nodes
  pub unseen : is_seen seen to ≡ false
  pub before : IsSeenUpTo graph seen node slot
