-- The cell that is read and comes late, as it is looked for from one cell.
use Rattle.std.specs.Prelude.{◌≡◌, ℕ, ℤ, true, false, if◌then◌else◌, Option, Some, None, List, slice_set, sum_by}
use Rattle.std.specs.List.{zip}
use Rattle.dim_core.specs.Outline.{Outline, level}
use Rattle.dim_weights.specs.Table.{is_nonzero}
use Rattle.cube_space.specs.Layout.{Layout}
use Rattle.cube_space.specs.Cells.{IsCell, cell_number}
use Rattle.rule_laws.specs.Meaning.{Precedent}
use Rattle.rule_laws.specs.Ordered.{HasPrecedent}
use Rattle.rule_model.specs.BoundModel.{BoundModel}
use Rattle.rule_model.specs.System.{system_of}
use Rattle.late_example.specs.Example.{rank_at, is_late}

-- a cell that is read from this one and comes late for it, or None where there is none
abbrev pub IsFound : BoundModel → ℕ → ℕ → Precedent → Option ℕ → Type 0
IsFound model cell position p None =
    (read : ℕ) → HasPrecedent (system_of model) p cell read
    → is_late position (rank_at model position cell) (rank_at model position read) ≡ false
IsFound model cell position p (Some read) =
    HasPrecedent (system_of model) p cell read
    × (is_late position (rank_at model position cell) (rank_at model position read) ≡ true)
    × IsCell model.space read

-- the cell that is read, if it comes late
abbrev pub found_at : BoundModel → ℕ → ℕ → Option ℕ → Option ℕ
found_at model cell position None = None
found_at model cell position (Some read) =
    if is_late position (rank_at model position cell) (rank_at model position read) then Some read else None

-- the cell of these elements with a component, where its weight isn't 0
abbrev pub component_cell : Layout → ℕ → List ℕ → ℕ → ℕ × ℤ → Option ℕ
component_cell space cube elements dim part = if is_nonzero part.1
    then cell_number space cube (slice_set elements dim part.0)
    else None

-- the levels of elements, one of each dimension, together
abbrev pub levels : List Outline → List ℕ → ℕ
levels dimensions elements = sum_by (λ p. level p.0 p.1) (zip dimensions elements)
