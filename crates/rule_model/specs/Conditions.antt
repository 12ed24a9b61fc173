-- What holds of the rules of a model.
use Rattle.std.specs.Prelude.{◌≡◌, ℕ, ◌<◌, ◌≤◌, ◌^◌, ◌+◌, pos, ⊤, Bool, true, false, Option, Some, None, IfSome}
use Rattle.std.specs.Prelude.{List, length, All, slice_get, slice_index_or}
use Rattle.std.specs.List.{AllZip}
use Rattle.std.specs.List.Sorted.{IsStrictlyIncreasing}
use Rattle.std.specs.Option.{option_map_or}
use Rattle.dim_core.specs.Outline.{Outline, IsElement}
use Rattle.dim_weights.specs.Coefficients.{coef}
use Rattle.cube_space.specs.Layout.{Layout, axes, sizes, sizes_of}
use Rattle.cube_space.specs.Cells.{are_leaves}
use Rattle.cube_space.specs.Radix.{are_digits}
use Rattle.rule_laws.specs.declared.reference.Reference.{Reference}
use Rattle.rule_laws.specs.declared.reference.Arg.{Arg}
use Rattle.rule_laws.specs.declared.reference.Arg.TheVariants.{Fixed, Moved}
use Rattle.rule_laws.specs.declared.formula.Formula.{Formula}
use Rattle.rule_laws.specs.Meaning.{Precedent, Named, Components, precedents}
use Rattle.rule_laws.specs.ZeroTest.{operands}
use Rattle.rule_model.specs.declared.area.Area.{Area}
use Rattle.rule_model.specs.declared.order.Order.{Order}
use Rattle.rule_model.specs.declared.order.Position.{Position}
use Rattle.rule_model.specs.declared.order.Position.TheVariants.{Constant, Ranks}
use Rattle.rule_model.specs.declared.rules.CubeRules.{CubeRules}
use Rattle.rule_model.specs.declared.rules.Statement.{Statement}
use Rattle.rule_model.specs.declared.rules.Feeder.{Feeder}
use Rattle.rule_model.specs.BoundModel.{no_rules}
use Rattle.rule_model.specs.Weights.{coef_product}
use Rattle.rule_model.specs.Order.{most_positions, positions_for, position_in, number_by}

-- a set of an area in a dimension of this size lists elements of it, rising, or has all
abbrev pub IsSet : ℕ → Option (List ℕ) → Type 0
IsSet size None = ⊤
IsSet size (Some listed) = IsStrictlyIncreasing listed × All (λ element. element < size) listed

-- an area has one set for each dimension of its cube
abbrev pub IsArea : Layout → ℕ → Area → Type 0
IsArea space cube area = AllZip IsSet (sizes space cube) area.sets

-- an argument of a reference from a cube whose dimensions have these sizes: it names elements of a dimension of this
-- size; a map follows a dimension of the source's cube, and has each element of it
abbrev pub IsArg : List ℕ → ℕ → Arg → Type 0
IsArg source size (Fixed element) = element < size
IsArg source size (Moved from to) =
    (from < length source) × (length to ≡ slice_index_or source from 0)
    × All (λ target. IfSome target (λ element. element < size)) to

-- a reference from a cube: it names a cube, with one argument for each dimension of that
abbrev pub IsReference : Layout → ℕ → Reference → Type 0
IsReference space cube r =
    (r.cube < length space.cubes) × AllZip (IsArg (sizes space cube)) (sizes space r.cube) r.args

-- what a formula of a cube reads: by a reference, or by the place of one of the cube's dimensions
abbrev pub IsPrecedent : Layout → ℕ → Precedent → Type 0
IsPrecedent space cube (Named r) = IsReference space cube r
IsPrecedent space cube (Components dim) = dim < length (sizes space cube)

-- it reads no components
abbrev pub IsNamed : Precedent → Type 0
IsNamed (Named r) = ⊤
IsNamed (Components dim) = ⊥

-- an N part of a statement, which doesn't hold ConsolidateChildren, and a C part
abbrev pub IsLeafPart : Layout → ℕ → Formula → Type 0
IsLeafPart space cube f = All (IsPrecedent space cube) (precedents f) × All IsNamed (precedents f)

abbrev pub IsConsolidatedPart : Layout → ℕ → Formula → Type 0
IsConsolidatedPart space cube f = All (IsPrecedent space cube) (precedents f)

-- how much a part reads, and how many operands it has
abbrev pub read_count : Option Formula → ℕ
read_count part = option_map_or (λ f. length (precedents f)) part 0

abbrev pub operand_count : Option Formula → ℕ
operand_count part = option_map_or operands part 0

pub record IsStatement (space : Layout) (cube : ℕ) (statement : Statement) : Type 0 where
  pub area : IsArea space cube statement.area
  pub leaf : IfSome statement.leaf (IsLeafPart space cube)
  pub consolidated : IfSome statement.cons (IsConsolidatedPart space cube)
  pub few_read : read_count statement.leaf + read_count statement.cons < 2 ^ 32
  pub few_operands : operand_count statement.leaf + operand_count statement.cons < 2 ^ 32

pub record IsFeeder (space : Layout) (cube : ℕ) (feeder : Feeder) : Type 0 where
  pub area : IsArea space cube feeder.area
  pub target : IsReference space cube feeder.target

-- the greatest number at a position of an order
abbrev pub greatest_rank : ℕ
greatest_rank = 4294967295

-- the rank of an element
abbrev pub rank_in : List ℕ → ℕ → ℕ
rank_in ranks element = slice_index_or ranks element 0

-- no element ranks lower than a leaf that counts in it
abbrev pub HoldsLeaves : Outline → List ℕ → Type 0
HoldsLeaves dimension ranks =
    (element leaf : ℕ) → IsElement dimension element → IsElement dimension leaf
    → (coef dimension element leaf ≡ pos 0 → ⊥) → rank_in ranks leaf ≤ rank_in ranks element

-- ranks of a dimension: one for each element
pub record AreRanks (dimension : Outline) (ranks : List ℕ) : Type 0 where
  pub each : length ranks ≡ length dimension.elements
  pub small : All (λ rank. rank ≤ greatest_rank) ranks

-- a position of an order of a cube with these dimensions
abbrev pub IsPosition : List Outline → Position → Type 0
IsPosition dimensions (Constant number) = number ≤ greatest_rank
IsPosition dimensions (Ranks dim ranks) =
    (dimension : Outline) × (slice_get dimensions dim ≡ Some dimension) × AreRanks dimension ranks

-- these are the elements of a consolidated cell, and of a leaf cell that counts in it
pub record IsLeafBelow (dimensions : List Outline) (above below : List ℕ) : Type 0 where
  pub cell : are_digits (sizes_of dimensions) above ≡ true
  pub leaf : are_digits (sizes_of dimensions) below ≡ true
  pub total : are_leaves dimensions above ≡ false
  pub leaves : are_leaves dimensions below ≡ true
  pub counts : coef_product dimensions above below ≡ pos 0 → ⊥

-- up to this position, the numbers of the leaf cell are those of the consolidated cell
abbrev pub AreEqualBefore : Order → List ℕ → List ℕ → ℕ → Type 0
AreEqualBefore order cell leaf place =
    (before : ℕ) → before < place
    → number_by (position_in order true before) leaf ≡ number_by (position_in order false before) cell

-- no leaf cell comes behind a consolidated cell in which it counts: at each position where both are equal before, it
-- has no greater number
abbrev pub HoldsLeafCells : List Outline → Order → Type 0
HoldsLeafCells dimensions order =
    (cell leaf : List ℕ) (place : ℕ) → IsLeafBelow dimensions cell leaf → AreEqualBefore order cell leaf place
    → number_by (position_in order true place) leaf ≤ number_by (position_in order false place) cell

pub record IsOrderOf (space : Layout) (cube : ℕ) (order : Order) : Type 0 where
  pub few : (kind : Bool) → length (positions_for kind order) ≤ most_positions
  pub each : (kind : Bool) → All (IsPosition (axes space cube)) (positions_for kind order)
  pub holds_leaf_cells : HoldsLeafCells (axes space cube) order

-- the rules of a cube
pub record AreCubeRules (space : Layout) (cube : ℕ) (rules : CubeRules) : Type 0 where
  pub few_statements : length rules.statements < 2 ^ 32
  pub few_feeders : length rules.feeders < 2 ^ 32
  pub statements : All (IsStatement space cube) rules.statements
  pub feeders : All (IsFeeder space cube) rules.feeders
  pub order : IsOrderOf space cube rules.order

-- the rules of the cubes of a space
pub record AreRules (space : Layout) (rules : List CubeRules) : Type 0 where
  pub each_cube : length rules ≡ length space.cubes
  pub cube : (cube : ℕ) → cube < length space.cubes → AreCubeRules space cube (slice_index_or rules cube no_rules)
