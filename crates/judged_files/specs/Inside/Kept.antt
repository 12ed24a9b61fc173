-- The records of files that are read once for each byte between columns.
use Rattle.std.specs.Prelude.{◌≡◌, ℕ, List, ◌∷◌, Option, Some, IfSome, map, option_map, position, slice_get, bytes_eq}
use Rattle.std.specs.Prelude.{length}
use Rattle.std.specs.Arc.{arc_value}
use Rattle.std.specs.Option.{option_and_then}
use Rattle.std.specs.declared.alloc.Global.{Global}
use Rattle.std.specs.declared.sync.Arc.{Arc}
use Rattle.file_passes.specs.Pass.{Source, source_of}
use Rattle.user_text.specs.Rows.{rows_of}

abbrev pub Records : Type 0
Records = List (List (List ℕ))

-- the names of files
abbrev pub names_of : List Source → List (List ℕ)
names_of sources = map (λ source. source.0) sources

-- the records of the file of this name, with this byte between columns
abbrev pub file_records : List Source → ℕ → List ℕ → Option Records
file_records sources separator name = option_map (λ source. rows_of separator 0 source.1) (source_of sources name)

-- what the records of a file are kept under: the byte between the columns, and then the name of the file
abbrev pub key_of : ℕ → List ℕ → List ℕ
key_of separator name = separator ∷ name

-- the records that are kept under this key
abbrev pub kept_records : List (List ℕ) → List (Arc Records Global) → List ℕ → Option Records
kept_records keys kept key =
    option_and_then (λ place. slice_get (map arc_value kept) place) (position (λ other. bytes_eq other key) keys)

-- what is kept under a key are the records of that file, with that byte between columns
pub record AreRecords (sources : List Source) (keys : List (List ℕ)) (kept : List (Arc Records Global)) : Type 0 where
  pub each : length kept ≡ length keys
  pub found : (separator : ℕ) (name : List ℕ)
      → IfSome (kept_records keys kept (key_of separator name))
      (λ records. file_records sources separator name ≡ Some records)
