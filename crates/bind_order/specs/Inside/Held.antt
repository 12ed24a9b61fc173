-- What holds of positions before they are an order.
use Rattle.std.specs.Prelude.{◌≡◌, ⊤, ℕ, ◌≤◌, List, Some, slice_get}
use Rattle.dim_core.specs.Outline.{Outline}
use Rattle.rule_model.specs.declared.order.Position.{Position}
use Rattle.rule_model.specs.declared.order.Position.TheVariants as positions
use Rattle.rule_model.specs.Conditions.{greatest_rank, AreRanks, HoldsLeaves, IsPosition}
use Rattle.bind_order.specs.declared.by_kind.PositionByKind.{PositionByKind}
use Rattle.bind_order.specs.declared.by_kind.PositionByKind.TheVariants.{Constants, Ranks}

-- ranks of a dimension, in which no leaf ranks above an element in which it counts
pub record AreHeldRanks (dimension : Outline) (ranks : List ℕ) : Type 0 where
  pub are : AreRanks dimension ranks
  pub hold : HoldsLeaves dimension ranks

-- a position for cells of both kinds, with such ranks
abbrev pub HoldsAt : List Outline → Position → Type 0
HoldsAt dimensions (positions.Constant number) = ⊤
HoldsAt dimensions (positions.Ranks dim ranks) =
    (dimension : Outline) → slice_get dimensions dim ≡ Some dimension → HoldsLeaves dimension ranks

pub record IsHeldPosition (dimensions : List Outline) (position : Position) : Type 0 where
  pub is : IsPosition dimensions position
  pub holds : HoldsAt dimensions position

-- a position for cells of each kind
abbrev pub IsByKind : List Outline → PositionByKind → Type 0
IsByKind dimensions (Constants leaf total) = (leaf ≤ greatest_rank) × (total ≤ greatest_rank)
IsByKind dimensions (Ranks dim leaf total) =
    (dimension : Outline) × (slice_get dimensions dim ≡ Some dimension) × AreRanks dimension leaf
    × AreRanks dimension total
