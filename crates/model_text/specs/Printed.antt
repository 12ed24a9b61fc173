-- What is printed of a model text.
use Rattle.std.specs.Prelude.{◌≡◌, ℕ, ◌≤◌, List, ◌++◌, length, map, option_map}
use Rattle.std.specs.List.{AllZip}
use Rattle.cube_lex.specs.Reading.{most_text_bytes}
use Rattle.cube_lex.specs.Written.{Writes}
use Rattle.model_text.specs.Answers.{IsModelText}
use Rattle.model_text.specs.Contents.{Contents}
use Rattle.model_text.specs.Spelled.{contents_spelled}
use Rattle.model_text.specs.declared.parts.CubeText.{CubeText}
use Rattle.model_text.specs.declared.parts.ScriptText.{ScriptText}

-- two cubes are equal, but for their places
pub record IsSameCube (x y : CubeText) : Type 0 where
  pub name : y.name ≡ x.name
  pub dims : y.dims ≡ x.dims
  pub rules : option_map (λ rules. rules.1) y.rules ≡ option_map (λ rules. rules.1) x.rules
  pub order : option_map (λ order. order.1) y.order ≡ option_map (λ order. order.1) x.order

pub record IsSameScript (x y : ScriptText) : Type 0 where
  pub name : y.name ≡ x.name
  pub file : y.file ≡ x.file

-- and so are two model texts: they have the same dimensions, and equal cubes and scripts
pub record AreSameContents (x y : Contents) : Type 0 where
  pub version : y.version ≡ x.version
  pub dims : map (λ text. text.dimension) y.dims ≡ map (λ text. text.dimension) x.dims
  pub cubes : AllZip IsSameCube x.cubes y.cubes
  pub scripts : AllZip IsSameScript x.scripts y.scripts

-- where the bytes aren't too many for a text, they are read as a model text with equal contents, but for places
abbrev pub IsTextOf : Contents → List ℕ → Type 0
IsTextOf contents bytes =
    length bytes ≤ most_text_bytes → (again : Contents) × IsModelText bytes again × AreSameContents contents again

-- new is old with the text written at its end: just the tokens that say these contents, in no more bytes than they
-- need, which read back
pub record IsPrinted (contents : Contents) (old new : List ℕ) : Type 0 where
  pub tokens : Writes old new (contents_spelled contents)
  pub reads : (bytes : List ℕ) → new ≡ old ++ bytes → IsTextOf contents bytes
