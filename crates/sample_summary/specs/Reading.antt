-- The summary of a sample, read off a version.
use Rattle.std.specs.Prelude.{ℕ, List, [], ◌∷◌, Option, Some, None, codes, length}
use Rattle.std.specs.Option.{option_map}
use Rattle.cell_values.specs.Reading.{value_on}
use Rattle.cell_versions.specs.Versions.{NumberedVersion}
use Rattle.cube_fixed.specs.declared.value.Value.{Value}
use Rattle.cube_sample.specs.Summary.{summary_text}
use Rattle.rule_model.specs.Named.{cell_named}

-- the value of a measure's cell for all products and the whole year, where the model has that cell
abbrev pub total_on : NumberedVersion → List ℕ → Option Value
total_on version measure =
    option_map (value_on version)
    (cell_named version.model.space (codes "Shop") (codes "Total" ∷ codes "Year" ∷ measure ∷ []))

abbrev pub with_totals : NumberedVersion → ℕ → Option Value → Option Value → Option (List ℕ)
with_totals version size None sales = None
with_totals version size (Some units) None = None
with_totals version size (Some units) (Some sales) =
    Some (summary_text size (length version.stored) (length version.fed) units sales)

-- the five lines of the summary, where the model has both cells
abbrev pub summary_on : NumberedVersion → ℕ → Option (List ℕ)
summary_on version size = with_totals version size (total_on version (codes "Units")) (total_on version (codes "Sales"))
