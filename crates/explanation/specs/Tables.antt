-- The statements of a rule text, and the references of a statement, one after another.
use Rattle.std.specs.Prelude.{◌≡◌, ℕ, ◌+◌, ◌-◌, ◌≤◌, List, [], codes, slice_index_or}
use Rattle.cube_lex.specs.Lexeme.{Lexeme}
use Rattle.file_passes.specs.declared.refusal.FilePlace.TheVariants.{Statement}
use Rattle.explanation.specs.Statements.{behind, references, tokens_from}
use Rattle.explanation.specs.declared.tables.ReferencesLeft.{ReferencesLeft}

-- of each statement of a rule text, in order, the tokens from its beginning on
abbrev pub IsStatementTable : List Lexeme → List (List Lexeme) → Type 0
IsStatementTable tokens table = (n : ℕ) → tokens_from (Statement (n + 1)) tokens ≡ slice_index_or table n []

-- the references from one of them on of the statement that begins these tokens
pub record AreLeft (tokens : List Lexeme) (left : ReferencesLeft) : Type 0 where
  pub are : (n : ℕ) → left.passed ≤ n
      → slice_index_or (references (behind (codes "=") tokens)) n []
      ≡ slice_index_or (references left.left) (n - left.passed) []
