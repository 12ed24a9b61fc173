-- The sections behind the dimensions.
use Rattle.std.specs.Prelude.{ℕ, List, codes}
use Rattle.model_text.specs.Statement.{has_totals}
use Rattle.model_text.specs.Readers.Reading.{Gatherer, read_cube, read_cubes, read_script, read_scripts}
use Rattle.model_text.specs.declared.statements.LaterSection.{LaterSection}
use Rattle.model_text.specs.declared.statements.LaterSection.TheVariants as sections

abbrev pub word_of : LaterSection → List ℕ
word_of sections.Cube = codes "CUBE"
word_of sections.Script = codes "SCRIPT"

-- a statement, in a text of this version
abbrev pub read_one : ℕ → LaterSection → Gatherer
read_one version sections.Cube = read_cube (has_totals version)
read_one version sections.Script = read_script

-- all statements
abbrev pub read_all : ℕ → LaterSection → Gatherer
read_all version sections.Cube = read_cubes (has_totals version)
read_all version sections.Script = read_scripts
