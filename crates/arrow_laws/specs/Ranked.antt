-- A model with other orders: the lag first, and then ranks of the elements of the last dimension.
use Rattle.std.specs.Prelude.{◌≡◌, ℕ, ◌<◌, ◌≤◌, pos, Bool, true, false, IsTrue, Some, None, List, [], ◌∷◌, map}
use Rattle.std.specs.Prelude.{length, slice_get, All, if◌then◌else◌}
use Rattle.dim_core.specs.Outline.{Outline, IsElement}
use Rattle.dim_weights.specs.Coefficients.{coef}
use Rattle.cube_space.specs.Layout.{axes}
use Rattle.rule_model.specs.declared.order.Order.{Order}
use Rattle.rule_model.specs.declared.order.Position.{Position}
use Rattle.rule_model.specs.declared.order.Position.TheVariants.{Ranks}
use Rattle.rule_model.specs.declared.rules.CubeRules.{CubeRules}
use Rattle.rule_model.specs.BoundModel.{BoundModel, rules_of}
use Rattle.rule_model.specs.Order.{position_in, position_of}
use Rattle.rule_model.specs.System.{cubes_of}
use Rattle.rule_model.specs.Conditions.{greatest_rank, rank_in}
use Rattle.arrow_laws.specs.Nodes.{NodeRanks, has_kinds, has_nodes, last_of, ranks_in}

abbrev pub with_order : CubeRules → Order → CubeRules
with_order rules order =
    record {
      skipcheck = rules.skipcheck;
      statements = rules.statements;
      feeders = rules.feeders;
      order = order;
    }

-- the same space and rules, with an order for each cube
abbrev pub with_orders : BoundModel → (ℕ → Order) → BoundModel
with_orders m orders =
    record { space = m.space; rules = map (λ cube. with_order (rules_of m cube) (orders cube)) (cubes_of m) }

-- the order of a cube has the same for leaf cells and for consolidated cells at its first position
abbrev pub HasOneLag : CubeRules → Type 0
HasOneLag rules = position_in rules.order false 0 ≡ position_in rules.order true 0

-- first what the cube's order has at its first position, then the ranks of the nodes of a kind
abbrev pub positions_by : BoundModel → NodeRanks → ℕ → Bool → List Position
positions_by m ranks cube kind =
    position_of m cube true 0 ∷ Ranks (last_of m.space cube) (ranks_in ranks kind cube) ∷ []

-- consolidated cells have positions of their own where the cells have kinds
abbrev pub order_by : BoundModel → NodeRanks → ℕ → Order
order_by m ranks cube =
    record {
      positions = positions_by m ranks cube true;
      totals = if has_kinds m cube then Some (positions_by m ranks cube false) else None;
    }

abbrev pub ranked : BoundModel → NodeRanks → BoundModel
ranked m ranks = with_orders m (order_by m ranks)

-- each cube has a rank for each element of its last dimension and kind of node, and none is too great for an order
pub record AreNodeRanks (m : BoundModel) (ranks : NodeRanks) : Type 0 where
  pub each : (cube : ℕ) (kind : Bool) (d : Outline) → cube < length m.space.cubes → IsTrue (has_nodes m cube kind)
      → slice_get (axes m.space cube) (last_of m.space cube) ≡ Some d
      → length (ranks_in ranks kind cube) ≡ length d.elements
  pub small : (cube : ℕ) (kind : Bool) → cube < length m.space.cubes → IsTrue (has_nodes m cube kind)
      → All (λ rank. rank ≤ greatest_rank) (ranks_in ranks kind cube)

-- by ranks for leaf cells, and for consolidated ones, no element ranks lower than a leaf that counts in it
abbrev pub HoldsLeavesOf : Outline → List ℕ → List ℕ → Type 0
HoldsLeavesOf dimension leaves totals =
    (element leaf : ℕ) → IsElement dimension element → IsElement dimension leaf
    → (coef dimension element leaf ≡ pos 0 → ⊥) → rank_in leaves leaf ≤ rank_in totals element
