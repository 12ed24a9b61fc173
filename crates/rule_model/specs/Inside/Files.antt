-- The file of a cube's feeders.
use Rattle.std.specs.Prelude.{◌≡◌, ℕ, suc, ◌+◌, ◌*◌, ◌^◌, ◌<◌, ◌≤◌, ◌==◌, Option, None, Some}
use Rattle.std.specs.Prelude.{List, [], ◌∷◌, length, filter, slice_get, slice_index_or}
use Rattle.std.specs.List.Sorted.{IsNonDecreasingBy}
use Rattle.cube_space.specs.Layout.{Layout, sizes, most_dimensions}
use Rattle.rule_laws.specs.declared.reference.Reference.{Reference}
use Rattle.rule_laws.specs.declared.reference.Arg.TheVariants.{Fixed}
use Rattle.rule_model.specs.declared.filed.FixedLeaf.{FixedLeaf}
use Rattle.rule_model.specs.declared.filed.FiledFeeder.{FiledFeeder}
use Rattle.rule_model.specs.declared.rules.CubeRules.{CubeRules}
use Rattle.rule_model.specs.declared.rules.Feeder.{Feeder}
use Rattle.rule_model.specs.BoundModel.{no_rules}
use Rattle.rule_model.specs.Filed.{leaf_of}

-- a reference names a cube, at most as many arguments as a cube has dimensions, and elements of that cube
pub record NamesElements (space : Layout) (r : Reference) : Type 0 where
  pub there : r.cube < length space.cubes
  pub few : length r.args ≤ most_dimensions
  pub fixed : (dim element : ℕ) → slice_get r.args dim ≡ Some (Fixed element)
      → element < slice_index_or (sizes space r.cube) dim 0

-- the numbers of a leaf are words of 32 bits
abbrev pub IsLow : FixedLeaf → Type 0
IsLow leaf = (leaf.dim < 2 ^ 32) × (leaf.element < 2 ^ 32)

-- what feeders are filed by, as one number: the cube, the dimension of the leaf counted from 1, or 0 where there is no
-- leaf, and the leaf
abbrev pub leaf_number : Option FixedLeaf → ℕ
leaf_number None = 0
leaf_number (Some leaf) = suc leaf.dim * 2 ^ 32 + leaf.element

abbrev pub file_number : ℕ → Option FixedLeaf → ℕ
file_number cube leaf = cube * 2 ^ 65 + leaf_number leaf

-- a feeder at a place, as it is filed, and the feeders from a place on
abbrev pub filed_at : Layout → ℕ → Feeder → FiledFeeder
filed_at space place feeder =
    record { key = file_number feeder.target.cube (leaf_of space feeder); place = place }

abbrev pub filed_from : Layout → ℕ → List Feeder → List FiledFeeder
filed_from space place [] = []
filed_from space place (feeder ∷ feeders) = filed_at space place feeder ∷ filed_from space (suc place) feeders

-- those that are filed by a number
abbrev pub of_number : List FiledFeeder → ℕ → List FiledFeeder
of_number file key = filter (λ filed. filed.key == key) file

-- the file of these feeders: by their numbers, and those of one number in their order
pub record IsFile (space : Layout) (feeders : List Feeder) (file : List FiledFeeder) : Type 0 where
  pub rising : IsNonDecreasingBy (λ filed. filed.key) file
  pub same : (key : ℕ) → of_number file key ≡ of_number (filed_from space 0 feeders) key

-- the files of the cubes
pub record AreFiles (space : Layout) (rules : List CubeRules) (files : List (List FiledFeeder)) : Type 0 where
  pub each : length files ≡ length rules
  pub file : (cube : ℕ) → cube < length rules
      → IsFile space (slice_index_or rules cube no_rules).feeders (slice_index_or files cube [])
