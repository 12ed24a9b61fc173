-- A number that is entered in a consolidated cell and spread over the leaf cells below it.
use Rattle.std.specs.Prelude.{◌≡◌, ℕ, ◌⊎◌, ⊤, ℤ, pos, Bool, not, ◌||◌, nat_lt, is_some, Option, Some, None}
use Rattle.std.specs.Prelude.{Result, Ok, Err, List, map, length, if◌then◌else◌}
use Rattle.std.specs.List.{list_any, list_all}
use Rattle.std.specs.Ordering.{int_eq}
use Rattle.cube_fixed.specs.Range.{is_in_range}
use Rattle.dim_weights.specs.Table.{nonzero_among}
use Rattle.cube_space.specs.Layout.{Layout}
use Rattle.cube_space.specs.Cells.{is_leaf_cell}
use Rattle.cell_store.specs.declared.entry.Entry.{Entry}
use Rattle.cell_store.specs.Entries.{number_at}
use Rattle.rule_model.specs.BoundModel.{BoundModel}
use Rattle.rule_model.specs.Governing.{governing_from}
use Rattle.rule_model.specs.Weights.{leaves_below}
use Rattle.cell_spread.specs.declared.fault.SpreadFault.{SpreadFault}
use Rattle.cell_spread.specs.declared.fault.SpreadFault.TheVariants.{IsALeaf, SpreadLimit, Weighted}
use Rattle.cell_spread.specs.declared.fault.SpreadFault.TheVariants.{RuleDerived, NothingThere, OverWrite}
use Rattle.cell_spread.specs.declared.fault.SpreadFault.TheVariants.{Memory}
use Rattle.cell_spread.specs.declared.writes.How.{How}
use Rattle.cell_spread.specs.declared.writes.How.TheVariants.{Equal, Proportional}
use Rattle.cell_spread.specs.Shares.{sum_of, shared_out}

-- the most leaf cells that an amount is spread over
abbrev pub most_spread : ℕ
most_spread = 250000

-- the leaf cells below a cell, by number
abbrev pub cells_below : Layout → ℕ → List ℕ
cells_below space cell = map (λ pair. pair.0) (leaves_below space cell)

-- in proportion to what a cell gets its share: each to 1, or to the number that is stored in it
abbrev pub part_of : How → List Entry → ℕ → ℤ
part_of Equal entries cell = pos 1
part_of Proportional entries cell = number_at entries cell

-- the leaf cells below a cell that get a share, by number, each with its part: those whose part isn't 0
abbrev pub parts_of : Layout → List Entry → How → ℕ → List (ℕ × ℤ)
parts_of space entries how cell = nonzero_among (part_of how entries) (cells_below space cell)

-- the writes that spread an amount
unfoldable pub writes_of : Layout → List Entry → ℕ → ℤ → How → List (ℕ × ℤ)
writes_of space entries cell amount how = shared_out amount (parts_of space entries how cell)

-- whether each number can be written
abbrev pub are_in_range : List (ℕ × ℤ) → Bool
are_in_range writes = list_all (λ write. is_in_range write.1) writes

-- whether a leaf cell below counts otherwise than just once
abbrev pub is_weighted : Layout → ℕ → Bool
is_weighted space cell = list_any (λ pair. not (int_eq pair.1 (pos 1))) (leaves_below space cell)

-- whether a statement governs a cell
abbrev pub is_governed : BoundModel → ℕ → Bool
is_governed model cell = is_some (governing_from model cell 0)

-- whether a statement governs a cell or a leaf cell below it
abbrev pub is_ruled : BoundModel → ℕ → Bool
is_ruled model cell = is_governed model cell || list_any (is_governed model) (cells_below model.space cell)

-- the first cause in the order of the faults, or None
unfoldable pub refusal_of : BoundModel → List Entry → ℕ → ℤ → How → Option SpreadFault
refusal_of model entries cell amount how =
    if is_leaf_cell model.space cell then Some IsALeaf
    else if nat_lt most_spread (length (leaves_below model.space cell))
    then Some (SpreadLimit (length (leaves_below model.space cell)))
    else if is_weighted model.space cell then Some Weighted
    else if is_ruled model cell then Some RuleDerived
    else if int_eq (sum_of (parts_of model.space entries how cell)) (pos 0) then Some NothingThere
    else if are_in_range (writes_of model.space entries cell amount how) then None
    else Some OverWrite

-- an answer has this cause: it is Ok where there is none, and else the cause; out of memory may always come
abbrev pub IsAnsweredBy : {T : Type 0} → Option SpreadFault → Result T SpreadFault → Type 0
IsAnsweredBy None (Ok value) = ⊤
IsAnsweredBy (Some cause) (Ok value) = ⊥
IsAnsweredBy None (Err fault) = fault ≡ Memory
IsAnsweredBy (Some cause) (Err fault) = (fault ≡ cause) ⊎ (fault ≡ Memory)
