-- Tokens that build a dimension.
use Rattle.std.proofs.Common.{◌≡◌, ℕ, List, map}
use Rattle.cube_lex.specs.Lexeme.{Lexeme}
use Rattle.cube_lex.specs.Written.{Spelling, spelling_of}
use Rattle.cube_lex.specs.declared.position.Position.{Position}
use Rattle.dim_core.specs.Draft.{IsFinished}
use Rattle.dim_core.specs.Outline.{Outline}
use Rattle.grammar.specs.Fault.{IsText}
use Rattle.grammar.specs.Grammar.{Grammar}
use Rattle.dim_text.specs.Building.{building, nothing, opened}
use Rattle.dim_text.specs.Progress.{Progress}
use Rattle.dim_text.specs.Statement.{body, dimension}

-- the tokens are a text of the grammar, whose statements build this dimension and no other
pub record Builds (G : Grammar Lexeme (Unit {0})) (start : Progress) (d : Outline) (ts : List Lexeme) : Type 0 where
  pub built : Progress
  pub text : IsText G building start ts tt built
  pub finished : IsFinished built.draft d
  pub only : (other : Outline) → IsFinished built.draft other → other ≡ d

-- these tokens, wherever they stand, are a block that builds the dimension
abbrev pub IsBlockOf : Outline → List Spelling → Type 0
IsBlockOf d tokens = (ts : List Lexeme) → map spelling_of ts ≡ tokens → Builds dimension nothing d ts

-- these tokens, wherever they stand, are what stands behind the head, at any place, of a block that builds the dimension
abbrev pub IsBodyOf : Outline → List Spelling → Type 0
IsBodyOf d tokens = (at : Position) (ts : List Lexeme) → map spelling_of ts ≡ tokens → Builds body (opened at d.name) d ts
