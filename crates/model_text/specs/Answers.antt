-- What is answered of the bytes of a model text: what it says, or the first fault.
use Rattle.std.specs.Prelude.{◌≡◌, ℕ, List, Result, Ok, Err}
use Rattle.std.specs.List.{AllZip}
use Rattle.cube_lex.specs.Positions.{nowhere}
use Rattle.cube_lex.specs.declared.position.Position.{Position}
use Rattle.grammar.specs.Whole.{IsWholeText, IsWholeSyntax, IsWholeRefused}
use Rattle.dim_text.specs.Progress.{IsBuilt}
use Rattle.model_text.specs.Contents.{Contents}
use Rattle.model_text.specs.Statement.{model}
use Rattle.model_text.specs.Watching.{Seen, nothing_seen, watching}
use Rattle.model_text.specs.declared.fault.ModelTextFault.{ModelTextFault}
use Rattle.model_text.specs.declared.fault.ModelTextCause.{ModelTextCause}
use Rattle.model_text.specs.declared.fault.ModelTextCause.TheVariants as causes

-- the contents are what has been read
pub record IsGathered (contents : Contents) (s : Seen) : Type 0 where
  pub version : contents.version ≡ s.given.parts.version
  pub dims : AllZip IsBuilt contents.dims s.blocks
  pub cubes : contents.cubes ≡ s.given.parts.cubes
  pub scripts : contents.scripts ≡ s.given.parts.scripts

-- the bytes are a model text, in which nothing is refused, and these are its contents
pub record IsModelText (bytes : List ℕ) (contents : Contents) : Type 0 where
  pub seen : Seen
  pub text : IsWholeText model watching nothing_seen bytes tt seen
  pub gathered : IsGathered contents seen

-- this is the first fault, at this place
abbrev pub IsFault : List ℕ → Position → ModelTextCause → Type 0
IsFault bytes place causes.Syntax = IsWholeSyntax model watching nothing_seen bytes place
IsFault bytes place causes.Memory = place ≡ nowhere
IsFault bytes place cause = IsWholeRefused model watching nothing_seen bytes (record { at = place; cause = cause })

abbrev pub Answers : List ℕ → Result Contents ModelTextFault → Type 0
Answers bytes (Ok contents) = IsModelText bytes contents
Answers bytes (Err fault) = IsFault bytes fault.at fault.cause
