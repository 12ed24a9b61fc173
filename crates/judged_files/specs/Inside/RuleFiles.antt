-- Cubes that name the same rule file.
use Rattle.std.specs.Prelude.{◌≡◌, ℕ, ◌<◌, List, map, slice_index_or, Some, None}
use Rattle.model_text.specs.declared.parts.CubeText.{CubeText}
use Rattle.judged_files.specs.Rules.{rule_name}

-- an earlier cube has its rules in the file of this name
pub record IsEarlierWith (cubes : List CubeText) (cube : ℕ) (name : List ℕ) (earlier : ℕ) : Type 0 where
  pub before : earlier < cube
  pub named : slice_index_or (map rule_name cubes) earlier None ≡ Some name
