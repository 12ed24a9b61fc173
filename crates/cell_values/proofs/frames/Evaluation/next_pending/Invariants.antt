use Rattle.std.proofs.Common.{◌≡◌, length}
use Rattle.cell_values.specs.Inside.Frames.{IsEvaluating}
use Rattle.memo_cells.specs.Knowledge.{Grew}
use Rattle.rule_evaluate.specs.declared.ask.Ask.TheVariants.{Value as of_value}
use Rattle.cell_values.proofs.frames.Evaluation.next_pending.Given as goal

-- but for what is pending the evaluation is the same, and what is remembered grew
abbrev pub invariant-pending : goal.invariant-pending
invariant-pending g l = record {
  own : IsEvaluating l.version l.self (of_value l.self.cell);
  known : l.self.known ≡ l.fn.self.known;
  cell : l.self.cell ≡ l.fn.self.cell;
  statement : l.self.statement ≡ l.fn.self.statement;
  asked : l.self.asked ≡ l.fn.self.asked;
  values : g.M.Memory.values l.memory ≡ g.M.Memory.values l.fn.memory;
  grew : Grew (g.M.Memory.known l.fn.memory) (g.M.Memory.known l.memory);
}

abbrev pub decreases-pending : goal.decreases-pending
decreases-pending g l = length l.self.pending.items
