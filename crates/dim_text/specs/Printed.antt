-- What is printed of a dimension.
use Rattle.std.specs.Prelude.{◌≡◌, ℕ, ◌≤◌, List, ◌++◌, length, Result, Ok, Err, None}
use Rattle.cube_lex.specs.Lexed.{Lexed}
use Rattle.cube_lex.specs.Reading.{IsReading, most_text_bytes}
use Rattle.cube_lex.specs.Written.{Writes}
use Rattle.dim_core.specs.Outline.{Outline}
use Rattle.dim_core.specs.Written.{written}
use Rattle.dim_text.specs.Answers.{Answers}
use Rattle.dim_text.specs.Progress.{Text}
use Rattle.dim_text.specs.Spelled.{draft_spelled}
use Rattle.dim_text.specs.declared.fault.DimTextFault.{DimTextFault}
use Rattle.dim_text.specs.declared.fault.DimTextCause.TheVariants as causes

-- a block was read whose dimension is this one, up to this place; out of memory may always come
abbrev pub IsReadAs : Outline → ℕ → Result (Text × ℕ) DimTextFault → Type 0
IsReadAs d end (Ok x) = (x.0.dimension ≡ d) × (x.1 ≡ end)
IsReadAs d end (Err fault) = fault.cause ≡ causes.Memory

-- whatever is answered of the tokens, it is the dimension
abbrev pub ReadsAs : Outline → Lexed → Type 0
ReadsAs d lexed =
    (answer : Result (Text × ℕ) DimTextFault) → Answers lexed.lexemes lexed.end 0 answer
    → IsReadAs d (length lexed.lexemes) answer

-- where the bytes aren't too many for a text, they have a reading without a fault, and it reads as the dimension
abbrev pub IsTextOf : Outline → List ℕ → Type 0
IsTextOf d bytes = length bytes ≤ most_text_bytes → (lexed : Lexed) × IsReading bytes lexed None × ReadsAs d lexed

-- new is old with the block of the dimension written at its end: just the tokens that define it, in no more bytes than
-- they need, which read back
pub record IsPrinted (d : Outline) (old new : List ℕ) : Type 0 where
  pub tokens : Writes old new (draft_spelled (written d))
  pub reads : (bytes : List ℕ) → new ≡ old ++ bytes → IsTextOf d bytes
