-- The limits that refusals name.
use Rattle.std.specs.Prelude.{ℕ, List, [], codes, length, ◌==◌, if◌then◌else◌}
use Rattle.std.specs.Str.{str_eq_ignore_ascii_case}
use Rattle.std.specs.Prelude.{drop, take_while}
use Rattle.cube_lex.specs.Bytes.{is_word_byte}
use Rattle.file_passes.specs.declared.refusal.Cause.{Cause}
use Rattle.file_passes.specs.declared.refusal.Cause.TheVariants as causes

-- the word at an offset of a text, or none
abbrev pub word_at : List ℕ → ℕ → List ℕ
word_at text at = take_while is_word_byte (drop at text)

-- how many there may be of what this word begins: an element of a dimension with `N`, `C` or `A`, a statement or a
-- feeder with no word, a command with any other word
abbrev pub most_of : List ℕ → List ℕ
most_of word =
    if str_eq_ignore_ascii_case word (codes "DIM") then codes "256 dimensions"
    else if str_eq_ignore_ascii_case word (codes "CUBE") then codes "64 cubes"
    else if str_eq_ignore_ascii_case word (codes "SCRIPT") then codes "256 scripts"
    else if str_eq_ignore_ascii_case word (codes "N") then codes "100000 elements"
    else if str_eq_ignore_ascii_case word (codes "C") then codes "100000 elements, 1000000 components"
    else if length word == 0 then codes "1000 statements, 1000 feeders"
    else codes "65536 commands"

-- the limit that is passed, where a cause is that of one; else nothing
abbrev pub limit_of : Cause → List ℕ → List ℕ
limit_of causes.TooMany word = most_of word
limit_of causes.WeightRange word = codes "1000000"
limit_of causes.CoefficientTooLarge word = codes "1000000000"
limit_of (causes.TooManyPairs count) word = codes "4000000"
limit_of causes.DimensionCount word = codes "2 to 16 dimensions"
limit_of causes.CubeTooLarge word = codes "4611686018427387904 cells"
limit_of causes.ModelTooLarge word = codes "4611686018427387904 cells"
limit_of causes.WeightProduct word = codes "1000000000"
limit_of causes.TooDeep word = codes "32 open at once, 1000 operands"
limit_of (causes.TooHigh height) word = codes "65536"
limit_of (causes.DenseTooLarge count) word = codes "1000000 leaf cells"
limit_of (causes.FedLimit count) word = codes "4000000 fed cells"
limit_of _ word = []
