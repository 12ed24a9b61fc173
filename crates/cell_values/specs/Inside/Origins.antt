-- Where the value of a cell comes from.
use Rattle.std.specs.Prelude.{◌≡◌, ℕ, true, false, Some, IsSome}
use Rattle.cell_versions.specs.Versions.{NumberedVersion}
use Rattle.cube_space.specs.Cells.{is_leaf_cell}
use Rattle.rule_model.specs.Governing.{governing_from}
use Rattle.cell_values.specs.declared.origin.Origin.{Origin}
use Rattle.cell_values.specs.declared.origin.Origin.TheVariants as origin
use Rattle.cell_values.specs.Reading.{value_on, IsUngoverned}

-- the cell's value comes from there
abbrev pub IsOrigin : NumberedVersion → ℕ → Origin → Type 0
IsOrigin version cell (origin.Stored value) =
    IsUngoverned version cell × (is_leaf_cell version.model.space cell ≡ true) × (value ≡ value_on version cell)
IsOrigin version cell (origin.Plain value) =
    IsSome (governing_from version.model cell 0) × (value ≡ value_on version cell)
IsOrigin version cell (origin.Statement place) = governing_from version.model cell 0 ≡ Some place
IsOrigin version cell origin.Leaves = IsUngoverned version cell × (is_leaf_cell version.model.space cell ≡ false)
