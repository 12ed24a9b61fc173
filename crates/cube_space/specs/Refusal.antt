-- Why dimensions and cubes are no space.
use Rattle.std.specs.Prelude.{◌≡◌, ℕ, ◌+◌, ◌⊎◌, ◌||◌, nat_lt, Option, Some, None, Result, Ok, Err, length}
use Rattle.std.specs.Prelude.{slice_get, if◌then◌else◌, ⊤}
use Rattle.std.specs.List.{filter_map, range_with_len}
use Rattle.cube_space.specs.declared.fault.SpaceFault.{SpaceFault}
use Rattle.cube_space.specs.declared.fault.SpaceFault.TheVariants.{CubeTooLarge, ModelTooLarge, DimensionCount, Memory}
use Rattle.cube_space.specs.Layout.{Layout, dims_of, fewest_dimensions, most_dimensions, most_model_cells}
use Rattle.cube_space.specs.Cells.{cell_count, first_cell}

-- the first cause that holds of a cube with this many dimensions and cells, after this many cells of the cubes before:
-- it has too few or too many dimensions, it has too many cells, or the cells so far, its own included, are too many
abbrev pub fault_of : ℕ → ℕ → ℕ → ℕ → Option SpaceFault
fault_of cube dimensions cells before =
    if nat_lt dimensions fewest_dimensions || nat_lt most_dimensions dimensions then Some (DimensionCount cube)
    else if nat_lt most_model_cells cells then Some (CubeTooLarge cube)
    else if nat_lt most_model_cells (before + cells) then Some (ModelTooLarge cube)
    else None

-- the fault of a cube, if it has one
unfoldable pub cube_fault : Layout → ℕ → Option SpaceFault
cube_fault layout cube = fault_of cube (length (dims_of layout cube)) (cell_count layout cube) (first_cell layout cube)

-- the fault of the first cube that has one
unfoldable pub refusal_of : Layout → Option SpaceFault
refusal_of layout = slice_get (filter_map (cube_fault layout) (range_with_len 0 (length layout.cubes))) 0

-- an answer has this cause: it is Ok where there is none, and else the cause; out of memory may always come
abbrev pub IsAnsweredBy : {T : Type 0} → Option SpaceFault → Result T SpaceFault → Type 0
IsAnsweredBy None (Ok value) = ⊤
IsAnsweredBy (Some cause) (Ok value) = ⊥
IsAnsweredBy None (Err fault) = fault ≡ Memory
IsAnsweredBy (Some cause) (Err fault) = (fault ≡ cause) ⊎ (fault ≡ Memory)
