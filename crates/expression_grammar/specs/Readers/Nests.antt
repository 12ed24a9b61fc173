-- A function value that reads expressions with fewer than so many one inside the other.
use Rattle.std.specs.Prelude.{ℕ, Result}
use Rattle.std.specs.declared.alloc.Global.{Global}
use denote.Ref.{MutBor}
use Rattle.expression_grammar.specs.Language.{Language}
use Rattle.expression_grammar.specs.Readers.Reading.{Scanner, PrimaryReader, read_expression}
use Rattle.expression_grammar.specs.declared.sort.Sort.{Sort}
use Rattle.expression_grammar.specs.declared.sort.Want.{Want}
use Rattle.grammar.specs.Cursor.{Reads}
use Rattle.grammar.specs.declared.cursor.Cursor.{Cursor}
use Rattle.grammar.specs.declared.stop.Stop.{Stop}

pub record Nests {A O S C : Type 0} (scan : Scanner S C) (L : Language A O) (primary : PrimaryReader S C A) (left : ℕ)
    (pre : Global → MutBor (Cursor S) → ℕ → Want → Type 0)
    (post : Global → MutBor (Cursor S) → ℕ → Want → Result (A × Sort) (Stop C) → MutBor (Cursor S) → Type 0)
    : Type 0 where
  pub callable : (alloc : Global) (old : MutBor (Cursor S)) (want : Want) → pre alloc old left want
  pub reads : (alloc : Global) (old new : MutBor (Cursor S)) (want : Want) (r : Result (A × Sort) (Stop C))
      → post alloc old left want r new
      → Reads (λ read. read) (read_expression scan L primary left want) old.now r new.now
