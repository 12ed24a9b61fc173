-- What is answered of a block: the dimension that its statements build, or the first fault.
use Rattle.std.specs.Prelude.{◌≡◌, ℕ, ◌+◌, List, ◌++◌, length, Result, Ok, Err}
use Rattle.cube_lex.specs.Lexeme.{Lexeme}
use Rattle.cube_lex.specs.Positions.{position_of, nowhere}
use Rattle.cube_lex.specs.declared.position.Position.{Position}
use Rattle.grammar.specs.Fault.{IsText, IsSyntax, IsRefused}
use Rattle.dim_text.specs.Progress.{Progress, Text, IsBuilt}
use Rattle.dim_text.specs.Building.{building, nothing}
use Rattle.dim_text.specs.Statement.{dimension}
use Rattle.dim_text.specs.declared.fault.DimTextFault.{DimTextFault}
use Rattle.dim_text.specs.declared.fault.DimTextCause.{DimTextCause}
use Rattle.dim_text.specs.declared.fault.DimTextCause.TheVariants as causes

-- the first tokens are a block, whose statements build this text; the rest begins at this place, where the tokens begin
-- at from
pub record IsBlock (tokens : List Lexeme) (from : ℕ) (text : Text) (next : ℕ) : Type 0 where
  pub block : List Lexeme
  pub rest : List Lexeme
  pub parts : tokens ≡ block ++ rest
  pub next_is : next ≡ from + length block
  pub built : Progress
  pub text_of : IsText dimension building nothing block tt built
  pub is_built : IsBuilt text built

-- no front part of the tokens is a block
abbrev pub BeginsNoBlock : List Lexeme → Type 0
BeginsNoBlock tokens = (block rest : List Lexeme) → tokens ≡ block ++ rest → dimension block tt → ⊥

-- this is the first fault, at this place
abbrev pub IsFault : List Lexeme → Position → Position → DimTextCause → Type 0
IsFault tokens end at causes.Syntax =
    BeginsNoBlock tokens × IsSyntax position_of dimension building nothing tokens end at
IsFault tokens end at (causes.Dim fault) =
    IsRefused dimension building nothing tokens (record { at = at; fault = fault })
IsFault tokens end at causes.Memory = at ≡ nowhere

abbrev pub Answers : List Lexeme → Position → ℕ → Result (Text × ℕ) DimTextFault → Type 0
Answers tokens end from (Ok x) = IsBlock tokens from x.0 x.1
Answers tokens end from (Err fault) = IsFault tokens end fault.at fault.cause
