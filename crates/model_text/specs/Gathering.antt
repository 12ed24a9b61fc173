-- What the pieces of a model text add, one after the other, and what is refused.
use Rattle.std.specs.Prelude.{ℕ, Bool, nat_le, nat_eq, List, [], ◌∷◌, ◌++◌, length, if◌then◌else◌}
use Rattle.std.specs.Prelude.{Option, Some, None, Result, Ok, Err}
use Rattle.std.specs.List.{list_any}
use Rattle.cube_lex.specs.declared.position.Position.{Position}
use Rattle.dim_name.specs.Name.{has_name, is_same_name, place_of}
use Rattle.model_text.specs.Contents.{is_version, most_model_dimensions, most_cubes, most_scripts}
use Rattle.model_text.specs.Statement.{Piece, Version, Closing, DimensionWord, CubeWord, ScriptWord}
use Rattle.model_text.specs.Statement.{QuotedText, CubeDimension, CubeEnd}
use Rattle.model_text.specs.declared.order.OrderLine.{OrderLine}
use Rattle.model_text.specs.declared.order.OrderWord.{OrderWord}
use Rattle.model_text.specs.declared.parts.CubeText.{CubeText}
use Rattle.model_text.specs.declared.parts.ScriptText.{ScriptText}
use Rattle.model_text.specs.declared.fault.ModelTextFault.{ModelTextFault}
use Rattle.model_text.specs.declared.fault.ModelTextCause.{ModelTextCause}
use Rattle.model_text.specs.declared.fault.ModelTextCause.TheVariants as causes

-- the statement that is being read
pub data Current : Type 0 where
  Nothing : Current
  -- behind its word, at this place
  DimensionDue : Position → Current
  CubeDue : Position → Current
  ScriptDue : Position → Current
  -- with its name, and the dimensions of a cube so far
  DimensionOpen : Position → List ℕ → Current
  CubeOpen : Position → List ℕ → List ℕ → Current
  ScriptOpen : Position → List ℕ → Current
  -- a dimension with its whole head, and a script with its file
  DimensionBody : Position → List ℕ → Current
  ScriptWhole : Position → List ℕ → List ℕ → Current

-- what has been read: the version, the names of the dimensions, the cubes and the scripts
pub record Parts : Type 0 where
  pub version : ℕ
  pub names : List (List ℕ)
  pub cubes : List CubeText
  pub scripts : List ScriptText

-- the same, and the statement that is being read
pub record Given : Type 0 where
  pub parts : Parts
  pub current : Current

-- with another statement
abbrev pub at : Parts → Current → Given
at parts current = record { parts = parts; current = current }

abbrev pub refused : {A : Type 0} → Position → ModelTextCause → Result A ModelTextFault
refused place cause = Err (record { at = place; cause = cause })

-- the limits
abbrev pub dimensions_are_full : Parts → Bool
dimensions_are_full parts = nat_le most_model_dimensions (length parts.names)

abbrev pub cubes_are_full : Parts → Bool
cubes_are_full parts = nat_le most_cubes (length parts.cubes)

abbrev pub scripts_are_full : Parts → Bool
scripts_are_full parts = nat_le most_scripts (length parts.scripts)

-- whether the name is there already
abbrev pub has_dimension : Parts → List ℕ → Bool
has_dimension parts shown = has_name parts.names shown

abbrev pub has_cube : Parts → List ℕ → Bool
has_cube parts shown = list_any (λ cube. is_same_name shown cube.name) parts.cubes

abbrev pub has_script : Parts → List ℕ → Bool
has_script parts shown = list_any (λ script. is_same_name shown script.name) parts.scripts

-- a statement goes on, unless it is refused at this place for this cause
abbrev pub unless : Bool → Position → ModelTextCause → Parts → Current → Result Given ModelTextFault
unless is_refused place cause parts current = if is_refused then refused place cause else Ok (at parts current)

-- a quoted text: a name, or a script's file
abbrev pub with_text : Parts → Position → List ℕ → Current → Result Given ModelTextFault
with_text parts place shown (DimensionDue word_place) =
    unless (has_dimension parts shown) place causes.Duplicate parts (DimensionOpen word_place shown)
with_text parts place shown (CubeDue word_place) =
    unless (has_cube parts shown) place causes.Duplicate parts (CubeOpen word_place shown [])
with_text parts place shown (ScriptDue word_place) =
    unless (has_script parts shown) place causes.Duplicate parts (ScriptOpen word_place shown)
with_text parts place shown (ScriptOpen word_place script) = Ok (at parts (ScriptWhole word_place script shown))
with_text parts place shown other = Ok (at parts other)

-- one more dimension of a cube, which has this number or isn't there
abbrev pub with_dimension : Parts → Position → Option ℕ → Current → Result Given ModelTextFault
with_dimension parts place None (CubeOpen word_place shown dims) = refused place causes.UnknownName
with_dimension parts place (Some number) (CubeOpen word_place shown dims) =
    unless (list_any (nat_eq number) dims) place causes.Duplicate parts
    (CubeOpen word_place shown (dims ++ number ∷ []))
with_dimension parts place number other = Ok (at parts other)

-- with the name of a further dimension
abbrev pub with_name : Parts → List ℕ → Parts
with_name parts shown = record parts { names = parts.names ++ shown ∷ [] }

abbrev pub with_cube : Parts → CubeText → Parts
with_cube parts cube = record parts { cubes = parts.cubes ++ cube ∷ [] }

abbrev pub with_script : Parts → ScriptText → Parts
with_script parts script = record parts { scripts = parts.scripts ++ script ∷ [] }

-- an order line with these words, in a text of this version
abbrev pub order_of : ℕ → Option (Position × List OrderWord) → Option (Position × OrderLine)
order_of version None = None
order_of version (Some order) = Some (order.0, record { version = version; words = order.1 })

-- a whole cube, with the dimensions so far
abbrev pub cube_of : Parts → Position → List ℕ → List ℕ → Option (Position × List ℕ)
    → Option (Position × List OrderWord) → CubeText
cube_of parts place shown dims rules order =
    record { at = place; name = shown; dims = dims; rules = rules; order = order_of parts.version order }

abbrev pub with_end : Parts → Option (Position × List ℕ) → Option (Position × List OrderWord) → Current → Given
with_end parts rules order (CubeOpen place shown dims) =
    at (with_cube parts (cube_of parts place shown dims rules order)) Nothing
with_end parts rules order other = at parts other

-- a `;`
abbrev pub closed : Parts → Current → Given
closed parts (DimensionOpen place shown) = at parts (DimensionBody place shown)
closed parts (ScriptWhole place shown file) =
    at (with_script parts (record { at = place; name = shown; file = file })) Nothing
closed parts other = at parts other

-- one more piece: what it adds, or why it is refused and at which place
abbrev pub gathered : Given → Piece → Result Given ModelTextFault
gathered g (Version place number) =
    if is_version number
    then Ok (at (record g.parts { version = number }) g.current)
    else refused place causes.WrongVersion
gathered g Closing = Ok (closed g.parts g.current)
gathered g (DimensionWord place) =
    unless (dimensions_are_full g.parts) place causes.TooMany g.parts (DimensionDue place)
gathered g (CubeWord place) = unless (cubes_are_full g.parts) place causes.TooMany g.parts (CubeDue place)
gathered g (ScriptWord place) = unless (scripts_are_full g.parts) place causes.TooMany g.parts (ScriptDue place)
gathered g (QuotedText place shown) = with_text g.parts place shown g.current
gathered g (CubeDimension place shown) = with_dimension g.parts place (place_of g.parts.names shown) g.current
gathered g (CubeEnd rules order) = Ok (with_end g.parts rules order g.current)
