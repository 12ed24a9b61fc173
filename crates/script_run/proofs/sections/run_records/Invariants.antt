use Rattle.std.proofs.Common.{◌≡◌, length}
use Rattle.script_run.specs.Meaning.{block_of}
use Rattle.script_run.specs.Load.{records}
use Rattle.script_run.proofs.sections.run_records.Given as goal

abbrev pub invariant-each : goal.invariant-each
invariant-each g l =
    (records l.decimal l.most (block_of l.body) (g.C.WorkCells.store l.cells) l.row l.rows l.run.progress (g.C.WorkCells.writes l.cells)
    ≡ records l.decimal l.most (block_of l.body) (g.C.WorkCells.store l.initial.cells) 1 l.initial.rows l.initial.run.progress (g.C.WorkCells.writes l.initial.cells))
    × (g.C.WorkCells.store l.cells ≡ g.C.WorkCells.store l.initial.cells)

abbrev pub decreases-each : goal.decreases-each
decreases-each g l = length l.rows
