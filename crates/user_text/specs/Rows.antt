-- The records of a load's file.
use Rattle.std.specs.Prelude.{ℕ, List, drop}
use Rattle.csv.specs.Reading.{default_config, records, strip_bom}
use Rattle.csv.specs.declared.parser.Config.{Config}

-- how the `csv` crate reads with this byte between columns
abbrev pub with_separator : ℕ → Config
with_separator byte = record default_config { delimiter = byte }

-- the columns of each record of a file but the first `skip`: one byte order mark is taken off, and the rest is what the
-- `csv` crate reads with this byte between columns, without a head line, with white space as it stands and with records
-- of any length. It takes off a mark of its own
abbrev pub rows_of : ℕ → ℕ → List ℕ → List (List (List ℕ))
rows_of byte skip bytes = drop skip (records (with_separator byte) (strip_bom (strip_bom bytes)))
