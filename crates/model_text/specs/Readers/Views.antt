-- What the private functions of the parser answer.
use Rattle.std.specs.Prelude.{◌≡◌, ℕ, List, [], ◌∷◌, ◌++◌, Result, Ok, Err}
use Rattle.std.specs.List.{AllZip}
use Rattle.cube_lex.specs.Lexeme.{Lexeme}
use Rattle.cube_lex.specs.Positions.{nowhere}
use Rattle.cube_lex.specs.declared.position.Position.{Position}
use Rattle.grammar.specs.Reading.{Unexpected, Refused, Read}
use Rattle.grammar.specs.declared.cursor.Cursor.{Cursor}
use Rattle.grammar.specs.declared.cursor.Unwatched.{Unwatched}
use Rattle.grammar.specs.declared.stop.Stop.{Stop}
use Rattle.grammar.specs.declared.stop.Stop.TheVariants as stops
use Rattle.grammar.specs.declared.answer.TextFault.{TextFault}
use Rattle.grammar.specs.declared.answer.TextFault.TheVariants as faults
use Rattle.model_text.specs.declared.fault.ModelTextCause.TheVariants as causes
use Rattle.dim_core.specs.Outline.{IsDimension}
use Rattle.dim_text.specs.Progress.{Progress, Text, IsBuilt}
use Rattle.dim_text.specs.declared.fault.Refusal.{Refusal}
use Rattle.dim_text.specs.Readers.Views.{ahead}
use Rattle.model_text.specs.Statement.{Piece, CubeDimension}
use Rattle.model_text.specs.Gathering.{Current, Nothing, CubeOpen, Parts, Given, at, gathered}
use Rattle.model_text.specs.Readers.Reading.{Gatherer, gather, read_dimension_behind, read_dimension}
use Rattle.model_text.specs.Watching.{Seen, of_block}
use Rattle.model_text.specs.declared.fault.ModelTextFault.{ModelTextFault}
use Rattle.model_text.specs.declared.fault.ModelTextCause.{ModelTextCause}

-- why reading stops at a refusal
abbrev pub refused_at : Position → ModelTextCause → Stop ModelTextFault
refused_at place cause = stops.Refused (record { at = place; cause = cause })

-- the reader stops for this reason, unless memory ran out
abbrev pub Stops : {R A : Type 0} → Stop ModelTextFault → Read Lexeme R ModelTextFault A → Type 0
Stops stops.Memory read = Unit {0}
Stops (stops.Unexpected left) read = read ≡ Err (Unexpected left)
Stops (stops.Refused fault) read = read ≡ Err (Refused fault)

-- a part of a text was read, and the state that it leaves is this one
abbrev pub GivesState : {X R : Type 0} → (X → R) → Result X (Stop ModelTextFault) → List Lexeme
    → Read Lexeme R ModelTextFault (Unit {0}) → Type 0
GivesState state (Ok x) tokens read = read ≡ Ok (tt, state x, tokens)
GivesState state (Err stop) tokens read = Stops stop read

-- the same of a piece that is kept
abbrev pub GivesPiece : {X R : Type 0} → (X → R) → Result X (Stop ModelTextFault) → List Lexeme
    → Read Lexeme R ModelTextFault Piece → Type 0
GivesPiece state (Ok x) tokens read = (piece : Piece) × (read ≡ Ok (piece, state x, tokens))
GivesPiece state (Err stop) tokens read = Stops stop read

-- a text has begun, with these parts, and its version is kept
abbrev pub Opens : {X : Type 0} → (X → Parts) → Result X (Stop ModelTextFault) → List Lexeme
    → Read Lexeme Given ModelTextFault ℕ → Type 0
Opens after (Ok x) tokens read = read ≡ Ok ((after x).version, at (after x) Nothing, tokens)
Opens after (Err stop) tokens read = Stops stop read

-- a piece was gathered, and the state that it leaves is this one
abbrev pub Gathers : {X : Type 0} → (X → Given) → Result X (Stop ModelTextFault)
    → Result Given ModelTextFault → Type 0
Gathers state (Ok x) added = added ≡ Ok (state x)
Gathers state (Err stops.Memory) added = Unit {0}
Gathers state (Err (stops.Unexpected left)) added = ⊥
Gathers state (Err (stops.Refused fault)) added = added ≡ Err fault

-- what was read leads from one current statement to another, and the parts stay
abbrev pub LeadsTo : {X : Type 0} → Parts → Current → Gatherer → (X → Current)
    → Cursor Unwatched → Result X (Stop ModelTextFault) → Cursor Unwatched → Type 0
LeadsTo parts from P to old result new =
    GivesState (λ x. at parts (to x)) result (ahead new) (P (at parts from) (ahead old))

-- what was read leads from these parts to others, between two statements
abbrev pub Collects : {X : Type 0} → Gatherer → Parts → (X → Parts)
    → Cursor Unwatched → Result X (Stop ModelTextFault) → Cursor Unwatched → Type 0
Collects P parts after old result new =
    GivesState (λ x. at (after x) Nothing) result (ahead new) (P (at parts Nothing) (ahead old))

-- a cube that has these dimensions so far names one more at this place: its number, or why it is refused
abbrev pub GathersDimension : Parts → List ℕ → Position → List ℕ → Result ℕ (Stop ModelTextFault) → Type 0
GathersDimension parts dims place shown result =
    (word_place : Position) (cube : List ℕ)
    → Gathers (λ number. at parts (CubeOpen word_place cube (dims ++ number ∷ [])))
    result (gathered (at parts (CubeOpen word_place cube dims)) (CubeDimension place shown))

-- the same, read behind this sign
abbrev pub ReadsDimension : Parts → List ℕ → List ℕ
    → Cursor Unwatched → Result ℕ (Stop ModelTextFault) → Cursor Unwatched → Type 0
ReadsDimension parts dims before old result new =
    (word_place : Position) (cube : List ℕ)
    → GivesPiece (λ number. at parts (CubeOpen word_place cube (dims ++ number ∷ [])))
    result (ahead new) (gather (read_dimension_behind before) (at parts (CubeOpen word_place cube dims)) (ahead old))

-- the dimension of a block is a valid one
abbrev pub IsValid : Text → Type 0
IsValid text = IsDimension text.dimension

-- the fault of a block, in a model text
abbrev pub stop_of : Stop Refusal → Stop ModelTextFault
stop_of stops.Memory = stops.Memory
stop_of (stops.Unexpected left) = stops.Unexpected left
stop_of (stops.Refused refusal) = stops.Refused (of_block refusal)

-- behind these blocks, with these parts
abbrev pub seen : List Progress → Parts → Seen
seen blocks parts = record { blocks = blocks; given = at parts Nothing }

-- the block of a dimension was read behind others
abbrev pub GivesBlock : Result Text (Stop ModelTextFault) → List Progress → Parts → List Lexeme
    → Read Lexeme Seen ModelTextFault (Unit {0}) → Type 0
GivesBlock (Ok text) blocks parts tokens read =
    (block : Progress) × (read ≡ Ok (tt, seen (blocks ++ block ∷ []) parts, tokens)) × IsBuilt text block
GivesBlock (Err stop) blocks parts tokens read = Stops stop read

-- whatever blocks stand before it
abbrev pub ReadsBlock : Parts → Parts → Cursor Unwatched → Result Text (Stop ModelTextFault) → Cursor Unwatched → Type 0
ReadsBlock parts after old result new =
    (blocks : List Progress)
    → GivesBlock result blocks after (ahead new) (read_dimension (seen blocks parts) (ahead old))

-- dimensions were read, and their blocks are these
abbrev pub GivesBlocks : {X : Type 0} → (X → List Text) → (X → Parts) → Result X (Stop ModelTextFault) → List Lexeme
    → Read Lexeme Seen ModelTextFault (Unit {0}) → Type 0
GivesBlocks dims parts (Ok x) tokens read =
    (blocks : List Progress) × (read ≡ Ok (tt, seen blocks (parts x), tokens)) × AllZip IsBuilt (dims x) blocks
GivesBlocks dims parts (Err stop) tokens read = Stops stop read

-- the version and the names of dimensions are the same
pub record AreSame (old new : Parts) : Type 0 where
  pub version : new.version ≡ old.version
  pub names : new.names ≡ old.names

-- the fault of a whole text
abbrev pub fault_from : TextFault ModelTextFault → ModelTextFault
fault_from faults.Memory = record { at = nowhere; cause = causes.Memory }
fault_from (faults.Syntax place) = record { at = place; cause = causes.Syntax }
fault_from (faults.Refused fault) = fault
