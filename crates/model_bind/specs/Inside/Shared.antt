-- Cubes that share a rule file.
use Rattle.std.specs.Prelude.{◌≡◌, ℕ, ◌<◌, List, length, map, slice_index_or, Option, Some, None}
use Rattle.model_bind.specs.Files.{RuleFile}
use Rattle.model_bind.specs.declared.rule_files.CubeFile.{CubeFile}

-- the file of each cube
abbrev pub files_of : List CubeFile → List (Option RuleFile)
files_of cubes = map (λ cube. cube.file) cubes

-- this is the file of one of the cubes
pub record HasFile (files : List (Option RuleFile)) (file : Option RuleFile) (cube : ℕ) : Type 0 where
  pub there : cube < length files
  pub is : slice_index_or files cube None ≡ file

-- an earlier cube has the same file
pub record IsEarlier (files : List (Option RuleFile)) (cube earlier : ℕ) : Type 0 where
  pub before : earlier < cube
  pub same : slice_index_or files earlier None ≡ slice_index_or files cube None

-- the cube with which a cube is kept to share its file
abbrev pub shared_with : List CubeFile → ℕ → Option ℕ
shared_with cubes cube = slice_index_or (map (λ cube. cube.same_as) cubes) cube None

-- it is an earlier cube with the same file
abbrev pub AreShared : List CubeFile → Type 0
AreShared cubes =
    (cube earlier : ℕ) → shared_with cubes cube ≡ Some earlier → IsEarlier (files_of cubes) cube earlier
