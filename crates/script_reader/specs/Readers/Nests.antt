-- A function value that reads statements with fewer than so many blocks one inside the other.
use Rattle.std.specs.Prelude.{ℕ, Result}
use Rattle.std.specs.declared.alloc.Global.{Global}
use denote.Ref.{MutBor}
use Rattle.grammar.specs.Cursor.{Reads}
use Rattle.grammar.specs.declared.cursor.Cursor.{Cursor}
use Rattle.grammar.specs.declared.stop.Stop.{Stop}
use Rattle.script_tree.specs.declared.counted.Counted.{Counted}
use Rattle.script_tree.specs.declared.excess.Excess.{Excess}
use Rattle.script_tree.specs.declared.line.Line.{Line}
use Rattle.script_tree.specs.declared.script.Section.{Section}
use Rattle.script_reader.specs.Readers.StatementReading.{read_within}

pub record Nests (section : Section) (left : ℕ)
    (pre : Global → MutBor (Cursor Counted) → Section → ℕ → Type 0)
    (post : Global → MutBor (Cursor Counted) → Section → ℕ → Result Line (Stop Excess) → MutBor (Cursor Counted)
    → Type 0)
    : Type 0 where
  pub callable : (alloc : Global) (old : MutBor (Cursor Counted)) → pre alloc old section left
  pub reads : (alloc : Global) (old new : MutBor (Cursor Counted)) (r : Result Line (Stop Excess))
      → post alloc old section left r new → Reads (λ line. line) (read_within section left) old.now r new.now
