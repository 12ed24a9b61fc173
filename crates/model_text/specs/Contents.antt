-- What a model text says.
use Rattle.std.specs.Prelude.{◌≡◌, ℕ, ◌<◌, ◌≤◌, ◌==◌, ◌||◌, nat_eq, Bool, List, length, map, IfSome, IsTrue, All}
use Rattle.std.specs.List.{IsDistinct}
use Rattle.dim_name.specs.Name.{is_same_name}
use Rattle.dim_text.specs.Progress.{Text}
use Rattle.model_text.specs.Orders.{has_kinds}
use Rattle.model_text.specs.declared.order.OrderLine.{OrderLine}
use Rattle.model_text.specs.declared.parts.CubeText.{CubeText}
use Rattle.model_text.specs.declared.parts.ScriptText.{ScriptText}
use Rattle.model_text.specs.Writable.{IsWritableCube, IsWritableScript}

-- the versions of model texts: the first, and the second, in which consolidated elements may have ranks of their own
abbrev pub is_version : ℕ → Bool
is_version number = (number == 1) || (number == 2)

-- how many dimensions, cubes and scripts a model may have
abbrev pub most_model_dimensions : ℕ
most_model_dimensions = 256

abbrev pub most_cubes : ℕ
most_cubes = 64

abbrev pub most_scripts : ℕ
most_scripts = 256

-- its version, and its dimensions, cubes and scripts in their order
pub record Contents : Type 0 where
  pub version : ℕ
  pub dims : List Text
  pub cubes : List CubeText
  pub scripts : List ScriptText

abbrev pub contents_of : ℕ → List Text → List CubeText → List ScriptText → Contents
contents_of version dims cubes scripts =
    record { version = version; dims = dims; cubes = cubes; scripts = scripts }

abbrev pub dimension_names : List Text → List (List ℕ)
dimension_names dims = map (λ d. d.dimension.name) dims

abbrev pub cube_names : List CubeText → List (List ℕ)
cube_names cubes = map (λ cube. cube.name) cubes

abbrev pub script_names : List ScriptText → List (List ℕ)
script_names scripts = map (λ script. script.name) scripts

-- the dimensions of a cube, by number: each is one of so many, and none stands twice
pub record AreDimensions (count : ℕ) (numbers : List ℕ) : Type 0 where
  pub there : All (λ number. number < count) numbers
  pub distinct : IsDistinct nat_eq numbers

-- an order line in a text of this version: only in version 2 it may tell leaf cells and consolidated cells apart
pub record IsLineIn (number : ℕ) (line : OrderLine) : Type 0 where
  pub version : line.version ≡ number
  pub kinds : IsTrue (has_kinds line.words) → number ≡ 2

-- the order line of a cube, where it has one, stands in a text of this version
abbrev pub IsOrderedIn : ℕ → CubeText → Type 0
IsOrderedIn version cube = IfSome cube.order (λ order. IsLineIn version order.1)

-- what holds of every model text that is read
pub record IsContents (contents : Contents) : Type 0 where
  pub known_version : IsTrue (is_version contents.version)
  pub few_dims : length contents.dims ≤ most_model_dimensions
  pub few_cubes : length contents.cubes ≤ most_cubes
  pub few_scripts : length contents.scripts ≤ most_scripts
  pub dims : IsDistinct is_same_name (dimension_names contents.dims)
  pub cubes : IsDistinct is_same_name (cube_names contents.cubes)
  pub scripts : IsDistinct is_same_name (script_names contents.scripts)
  pub cube_dims : All (λ cube. AreDimensions (length contents.dims) cube.dims) contents.cubes
  pub cube_orders : All (IsOrderedIn contents.version) contents.cubes
  pub writable_cubes : All IsWritableCube contents.cubes
  pub writable_scripts : All IsWritableScript contents.scripts
