use Rattle.stored_laws.specs.Stored.{stored_in}
use Rattle.rule_dense.proofs.Depths.{AreDenseUpTo}
use Rattle.rule_dense.proofs.table.all_values.Given as goal

abbrev pub invariant-loop-cell : goal.invariant-loop-cell
invariant-loop-cell l = AreDenseUpTo l.model (stored_in l.store) l.cell-items l.values.items l.cell-index
