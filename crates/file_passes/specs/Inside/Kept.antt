-- What the files keep that were read: their order, and where each name leads.
use Rattle.std.specs.Prelude.{◌≡◌, ℕ, ◌<◌, List, Option, Some, String, length, map, reverse, slice_get}
use Rattle.std.specs.Option.{option_and_then, option_map}
use Rattle.std.specs.BTreeMap.{BTreeMap, get_by_text}
use Rattle.std.specs.declared.alloc.Global.{Global}
use Rattle.file_passes.specs.declared.reading.Reading.{Reading}
use Rattle.file_passes.specs.Pass.{Readings, bytes_of}

-- the files as contracts see them, the last one first
abbrev pub viewed : List Reading → Readings
viewed files = reverse (map (λ reading. (reading.name.items, reading.bytes.items)) files)

-- the bytes of the file at a place
abbrev pub bytes_at : List Reading → ℕ → Option (List ℕ)
bytes_at files place = option_map (λ reading. reading.bytes.items) (slice_get files place)

-- each name leads to the file that was read under it
pub record AreFound (files : List Reading) (places : BTreeMap (String Global) ℕ) : Type 0 where
  pub within : (name : List ℕ) (place : ℕ) → get_by_text places name ≡ Some place → place < length files
  pub bytes : (name : List ℕ)
      → option_and_then (bytes_at files) (get_by_text places name) ≡ bytes_of (viewed files) name
