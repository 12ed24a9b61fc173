-- The parts of a sum, as they are found one after another.
use Rattle.std.specs.Prelude.{ℕ, ◌+◌, nat_lt, ℤ, List, [], ◌∷◌, ◌++◌, length, if◌then◌else◌}
use Rattle.cube_fixed.specs.declared.value.Value.{Value}
use Rattle.cell_trace.specs.declared.line.Line.{Line}
use Rattle.cell_trace.specs.declared.line.Line.TheVariants as lines
use Rattle.cell_trace.specs.declared.line.Part.{Part}

-- the lines of the parts that are listed, and how many more there are
pub record Listed : Type 0 where
  pub lines : List Line
  pub more : ℕ

abbrev pub none_listed : Listed
none_listed = record { lines = []; more = 0 }

-- with one part more, which is listed where fewer than so many are
abbrev pub with_part : ℕ → Listed → Part → Listed
with_part most listed part =
    if nat_lt (length listed.lines) most
    then record { lines = listed.lines ++ lines.Part part ∷ []; more = listed.more }
    else record { lines = listed.lines; more = listed.more + 1 }

-- the lines of all of them
abbrev pub lines_of : Listed → List Line
lines_of listed = listed.lines ++ (if nat_lt 0 listed.more then lines.More listed.more ∷ [] else [])

-- a cell of this weight as a part
abbrev pub part_at : (ℕ → Value) → ℕ × ℤ → Part
part_at values pair = record { cell = pair.0; weight = pair.1; value = values pair.0 }
