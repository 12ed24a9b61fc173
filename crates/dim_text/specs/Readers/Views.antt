-- What the code's values mean, and what its private functions answer.
use Rattle.std.specs.Prelude.{◌≡◌, ℕ, ◌-◌, List, length, drop, Option, Result, Ok, Err}
use Rattle.dim_core.specs.declared.fault.DimFault.{DimFault}
use Rattle.dim_core.specs.declared.fault.DimFault.TheVariants as faults
use Rattle.cube_lex.specs.Lexeme.{Lexeme}
use Rattle.cube_lex.specs.Positions.{position_of, nowhere}
use Rattle.cube_lex.specs.declared.position.Position.{Position}
use Rattle.grammar.specs.Reading.{Unexpected, Refused, Read}
use Rattle.grammar.specs.declared.cursor.Cursor.{Cursor}
use Rattle.grammar.specs.declared.cursor.Unwatched.{Unwatched}
use Rattle.grammar.specs.declared.stop.Stop.{Stop}
use Rattle.grammar.specs.declared.stop.Stop.TheVariants as stops
use Rattle.dim_text.specs.Progress.{Progress, Text, IsBuilt}
use Rattle.dim_text.specs.Building.{finished}
use Rattle.dim_text.specs.Statement.{Statement, Head, Leaf, Consolidated, Attribute}
use Rattle.dim_text.specs.declared.element.Element.{Element}
use Rattle.dim_text.specs.declared.element.Element.TheVariants as elements
use Rattle.grammar.specs.Fault.{place_at}
use Rattle.dim_text.specs.declared.fault.Refusal.{Refusal}
use Rattle.dim_text.specs.declared.fault.DimTextFault.{DimTextFault}
use Rattle.dim_text.specs.declared.fault.DimTextCause.TheVariants as causes

-- the tokens that a cursor has before it
abbrev pub ahead : Cursor Unwatched → List Lexeme
ahead cursor = cursor.tokens

abbrev pub head_view : Position × List ℕ → Statement
head_view head = Head head.0 head.1

abbrev pub element_view : Element → Statement
element_view (elements.Leaf at shown) = Leaf at shown
element_view (elements.Consolidated at shown components) = Consolidated at shown components.items
element_view (elements.Attribute at shown called value) = Attribute at shown called value.items

-- why a statement at this place stops the reading
abbrev pub refused_at : Position → DimFault → Stop Refusal
refused_at at faults.Memory = stops.Memory
refused_at at fault = stops.Refused (record { at = at; fault = fault })

-- what a function built is what the statement adds, unless memory ran out
abbrev pub Adds : {X : Type 0} → Result X (Stop Refusal) → Progress → Result Progress Refusal → Type 0
Adds (Ok x) new added = added ≡ Ok new
Adds (Err stops.Memory) new added = Unit {0}
Adds (Err (stops.Unexpected left)) new added = ⊥
Adds (Err (stops.Refused cause)) new added = added ≡ Err cause

-- the block is finished, or refused for this cause, unless memory ran out
abbrev pub Finishes : Result Text (Stop Refusal) → Progress → Option DimFault → Type 0
Finishes (Ok text) p cause = (finished p cause ≡ Ok p) × IsBuilt text p
Finishes (Err stops.Memory) p cause = Unit {0}
Finishes (Err (stops.Unexpected left)) p cause = ⊥
Finishes (Err (stops.Refused refusal)) p cause = finished p cause ≡ Err refusal

-- a part of a block was read and built, unless memory ran out
abbrev pub GivesPartial : Result Progress (Stop Refusal) → List Lexeme
    → Read Lexeme Progress Refusal (Unit {0}) → Type 0
GivesPartial (Ok partial) tokens read = read ≡ Ok (tt, partial, tokens)
GivesPartial (Err stops.Memory) tokens read = Unit {0}
GivesPartial (Err (stops.Unexpected left)) tokens read = read ≡ Err (Unexpected left)
GivesPartial (Err (stops.Refused cause)) tokens read = read ≡ Err (Refused cause)

-- a block was read, which means what was built, unless memory ran out
abbrev pub GivesText : Result Text (Stop Refusal) → List Lexeme → Read Lexeme Progress Refusal (Unit {0}) → Type 0
GivesText (Ok text) tokens read = (p : Progress) × (read ≡ Ok (tt, p, tokens)) × IsBuilt text p
GivesText (Err stops.Memory) tokens read = Unit {0}
GivesText (Err (stops.Unexpected left)) tokens read = read ≡ Err (Unexpected left)
GivesText (Err (stops.Refused cause)) tokens read = read ≡ Err (Refused cause)

-- the same, where the end leaves what was built as it is
abbrev pub GivesEnd : Result Text (Stop Refusal) → Progress → List Lexeme
    → Read Lexeme Progress Refusal (Unit {0}) → Type 0
GivesEnd (Ok text) p tokens read = (read ≡ Ok (tt, p, tokens)) × IsBuilt text p
GivesEnd (Err stops.Memory) p tokens read = Unit {0}
GivesEnd (Err (stops.Unexpected left)) p tokens read = read ≡ Err (Unexpected left)
GivesEnd (Err (stops.Refused cause)) p tokens read = read ≡ Err (Refused cause)

-- the fault says where the reader of these tokens stopped
abbrev pub Explains : List Lexeme → Position → Stop Refusal → DimTextFault → Type 0
Explains tokens end stops.Memory fault = (fault.at ≡ nowhere) × (fault.cause ≡ causes.Memory)
Explains tokens end (stops.Unexpected left) fault =
    (fault.at ≡ place_at position_of end (drop (length tokens - left) tokens))
    × (fault.cause ≡ causes.Syntax)
Explains tokens end (stops.Refused cause) fault =
    (fault.at ≡ cause.at) × (fault.cause ≡ causes.Dim cause.fault)
