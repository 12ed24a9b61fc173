-- The positions of an order line make an order of its cube.
use Rattle.std.proofs.Common.{◌≡◌, ◌≤◌, ℕ, Bool, true, false, List, length, All, arith}
use Rattle.std.proofs.lemmas.List.{length-map}
use Rattle.std.proofs.lemmas.List.Elements.{All-map, All-weaker}
use Rattle.dim_core.specs.Outline.{Outline}
use Rattle.cube_space.specs.Layout.{Layout, axes}
use Rattle.rule_model.specs.declared.order.Position.{Position}
use Rattle.rule_model.specs.declared.order.Position.TheVariants as positions
use Rattle.rule_model.specs.Order.{most_positions, positions_for}
use Rattle.rule_model.specs.Conditions.{IsPosition, IsOrderOf}
use Rattle.rule_model.proofs.LeafCells.{HoldsLeavesAt, leaf_cells-held}
use Rattle.bind_order.specs.declared.by_kind.PositionByKind.{PositionByKind}
use Rattle.bind_order.specs.declared.by_kind.PositionByKind.TheVariants.{Constants, Ranks}
use Rattle.bind_order.specs.ByKind.{leaf_position, total_position, kinds_order}
use Rattle.bind_order.specs.LeafCells.{holds_leaf_cells}
use Rattle.bind_order.specs.Orders.{plain_order, equal_order}
use Rattle.bind_order.specs.Inside.Held.{HoldsAt, IsHeldPosition, IsByKind}
use Rattle.bind_order.proofs.BreakFacts.{kinds-valid}

-- positions for cells of both kinds
holds-at : (ds : List Outline) (position : Position) → HoldsAt ds position → HoldsLeavesAt ds position
holds-at ds (positions.Constant number) holds = holds
holds-at ds (positions.Ranks dim ranks) holds = holds

pub plain-valid : (space : Layout) (cube : ℕ) (list : List Position) → length list ≤ most_positions → All (IsHeldPosition (axes space cube)) list → IsOrderOf space cube (plain_order list)
plain-valid space cube list few held = record {
  few = λ kind. few-of kind;
  each = λ kind. each-of kind;
  holds_leaf_cells = leaf_cells-held (axes space cube) list each (All-weaker (IsHeldPosition (axes space cube)) (HoldsLeavesAt (axes space cube)) (λ p h. holds-at (axes space cube) p h.holds) list held);
}
  where
    each : All (IsPosition (axes space cube)) list
    each = All-weaker (IsHeldPosition (axes space cube)) (IsPosition (axes space cube)) (λ p h. h.is) list held

    few-of : (kind : Bool) → length (positions_for kind (plain_order list)) ≤ most_positions
    few-of true = few
    few-of false = few

    each-of : (kind : Bool) → All (IsPosition (axes space cube)) (positions_for kind (plain_order list))
    each-of true = each
    each-of false = each

-- the same positions, in a list for each kind
pub equal-valid : (space : Layout) (cube : ℕ) (list : List Position) → length list ≤ most_positions → All (IsHeldPosition (axes space cube)) list → IsOrderOf space cube (equal_order list)
equal-valid space cube list few held = record {
  few = λ kind. few-of kind;
  each = λ kind. each-of kind;
  holds_leaf_cells = plain.holds_leaf_cells;
}
  where
    plain : IsOrderOf space cube (plain_order list)
    plain = plain-valid space cube list few held

    few-of : (kind : Bool) → length (positions_for kind (equal_order list)) ≤ most_positions
    few-of true = few
    few-of false = few

    each-of : (kind : Bool) → All (IsPosition (axes space cube)) (positions_for kind (equal_order list))
    each-of true = plain.each true
    each-of false = plain.each false

-- positions for cells of each kind
leaf-is : (ds : List Outline) (position : PositionByKind) → IsByKind ds position → IsPosition ds (leaf_position position)
leaf-is ds (Constants leaf total) is = is.0
leaf-is ds (Ranks dim leaf total) (d, at, first, second) = (d, at, first)

total-is : (ds : List Outline) (position : PositionByKind) → IsByKind ds position → IsPosition ds (total_position position)
total-is ds (Constants leaf total) is = is.1
total-is ds (Ranks dim leaf total) (d, at, first, second) = (d, at, second)

pub by_kind-valid : (space : Layout) (cube : ℕ) (list : List PositionByKind) → length list ≤ most_positions → All (IsByKind (axes space cube)) list → holds_leaf_cells (axes space cube) (kinds_order list) ≡ true → IsOrderOf space cube (kinds_order list)
by_kind-valid space cube list few are holds = record {
  few = λ kind. few-of kind;
  each = λ kind. each-of kind;
  holds_leaf_cells = kinds-valid (axes space cube) list few holds;
}
  where
    few-of : (kind : Bool) → length (positions_for kind (kinds_order list)) ≤ most_positions
    few-of true = omega (arith, few, length-map list leaf_position)
    few-of false = omega (arith, few, length-map list total_position)

    each-of : (kind : Bool) → All (IsPosition (axes space cube)) (positions_for kind (kinds_order list))
    each-of true = All-map (IsPosition (axes space cube)) leaf_position list (All-weaker (IsByKind (axes space cube)) (λ p. IsPosition (axes space cube) (leaf_position p)) (leaf-is (axes space cube)) list are)
    each-of false = All-map (IsPosition (axes space cube)) total_position list (All-weaker (IsByKind (axes space cube)) (λ p. IsPosition (axes space cube) (total_position p)) (total-is (axes space cube)) list are)
