-- What the statements of the three sections have in common.
use Rattle.std.specs.Prelude.{ℕ, Bool, List, [], codes}
use Rattle.cube_lex.specs.declared.position.Position.{Position}
use Rattle.grammar.specs.Watch.{unscanned}
use Rattle.grammar.specs.Reading.{gives, take_one, ◌>>=◌}
use Rattle.grammar.specs.Tokens.{word}
use Rattle.model_text.specs.Statement.{Piece, DimensionWord, CubeWord, ScriptWord}
use Rattle.model_text.specs.Gathering.{Current, DimensionDue, CubeDue, ScriptDue, DimensionOpen, CubeOpen, ScriptOpen}
use Rattle.model_text.specs.Gathering.{Parts, dimensions_are_full, cubes_are_full, scripts_are_full}
use Rattle.model_text.specs.Gathering.{has_dimension, has_cube, has_script}
use Rattle.model_text.specs.Readers.Reading.{Plain, Gatherer, gather_dimension_word, gather_cube_word}
use Rattle.model_text.specs.Readers.Reading.{gather_script_word}
use Rattle.model_text.specs.declared.section.Section.{Section}
use Rattle.model_text.specs.declared.section.Section.TheVariants as sections

abbrev pub word_of : Section → List ℕ
word_of sections.Dimension = codes "DIM"
word_of sections.Cube = codes "CUBE"
word_of sections.Script = codes "SCRIPT"

abbrev pub word_piece : Section → Position → Piece
word_piece sections.Dimension place = DimensionWord place
word_piece sections.Cube place = CubeWord place
word_piece sections.Script place = ScriptWord place

unfoldable pub read_word : Section → Plain Piece
read_word section = do
  place ← take_one unscanned (word (word_of section))
  gives (word_piece section place)

abbrev pub gather_word : Section → Gatherer
gather_word sections.Dimension = gather_dimension_word
gather_word sections.Cube = gather_cube_word
gather_word sections.Script = gather_script_word

abbrev pub is_full : Section → Parts → Bool
is_full sections.Dimension parts = dimensions_are_full parts
is_full sections.Cube parts = cubes_are_full parts
is_full sections.Script parts = scripts_are_full parts

abbrev pub has : Section → Parts → List ℕ → Bool
has sections.Dimension parts shown = has_dimension parts shown
has sections.Cube parts shown = has_cube parts shown
has sections.Script parts shown = has_script parts shown

-- behind its word, at this place
abbrev pub due : Section → Position → Current
due sections.Dimension place = DimensionDue place
due sections.Cube place = CubeDue place
due sections.Script place = ScriptDue place

-- with its name
abbrev pub named : Section → Position → List ℕ → Current
named sections.Dimension place shown = DimensionOpen place shown
named sections.Cube place shown = CubeOpen place shown []
named sections.Script place shown = ScriptOpen place shown
