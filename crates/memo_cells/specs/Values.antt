-- The values of cells on a version, and the words that they are kept as.
use Rattle.std.specs.Prelude.{ℕ, ◌+◌, pos, ◌-ℤ◌}
use Rattle.cube_fixed.specs.declared.value.Value.{Value}
use Rattle.cube_fixed.specs.Arithmetic.{fit}
use Rattle.cube_fixed.specs.Range.{most_millionths}
use Rattle.rule_laws.specs.RuleSystem.{dense_value}
use Rattle.rule_model.specs.System.{system_of}
use Rattle.stored_laws.specs.Stored.{stored_in}
use Rattle.memo_cells.specs.declared.version.Version.{Version}

-- the value of a cell on a version: what plain rounds of evaluation over all cells give it there
unfoldable pub cell_value : Version → ℕ → Value
cell_value version = dense_value (system_of version.model.value) (stored_in version.stored.value)

-- the value that is kept as a word: the word is one more than the millionths and the limit; beyond the range it is Over
abbrev pub value_in : ℕ → Value
value_in word = fit (pos word -ℤ pos (most_millionths + 1))
