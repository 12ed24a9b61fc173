-- What finding an order gives.
use Rattle.std.specs.Prelude.{◌≡◌, ◌<◌, ◌≤◌, IsTrue, List, map, length}
use Rattle.rule_model.specs.declared.order.Order.{Order}
use Rattle.rule_model.specs.BoundModel.{BoundModel}
use Rattle.rule_model.specs.System.{cubes_of}
use Rattle.arrow_laws.specs.Nodes.{Node, NodeRanks, has_nodes, rank_of}
use Rattle.arrow_laws.specs.Arrows.{FitArrows, IsLevelThroughout}
use Rattle.arrow_laws.specs.Ranked.{AreNodeRanks, order_by}
use Rattle.order_find.specs.Numbers.{width}
use Rattle.order_find.specs.Unlagged.{IsFirstUnlagged}
use Rattle.order_find.specs.Circles.{IsCircle, BeginsLeast}
use Rattle.order_find.specs.declared.fault.FindFault.{FindFault}
use Rattle.order_find.specs.declared.fault.FindFault.TheVariants.{Unlagged, Cycle, Memory}

-- no ranks that fit the arrows of the model are smaller at any node
abbrev pub AreLeast : BoundModel → NodeRanks → Type 0
AreLeast m ranks =
    (others : NodeRanks) → FitArrows m others → (node : Node) → node.cube < length m.space.cubes
    → node.element < width m.space node.cube → IsTrue (has_nodes m node.cube node.kind)
    → rank_of ranks node ≤ rank_of others node

-- nothing is read at a greater lag, and each cube's order is its lag and then the least ranks that fit the arrows
pub record AreFound (m : BoundModel) (orders : List Order) : Type 0 where
  pub level : IsLevelThroughout m
  pub ranks : NodeRanks
  pub each : AreNodeRanks m ranks
  pub fit : FitArrows m ranks
  pub least : AreLeast m ranks
  pub made : orders ≡ map (order_by m ranks) (cubes_of m)

-- why none is found: this reference is the first that may read at a greater lag, or there is none, and this is a circle
abbrev pub IsFindFault : BoundModel → FindFault → Type 0
IsFindFault m (Unlagged cube statement reference) = IsFirstUnlagged m cube statement reference
IsFindFault m (Cycle links) = IsLevelThroughout m × IsCircle m links.items × BeginsLeast links.items
IsFindFault m Memory = Unit {0}
