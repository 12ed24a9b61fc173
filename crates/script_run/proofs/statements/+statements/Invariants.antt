use Rattle.std.proofs.Common.{◌≡◌, ◌≤◌, map, drop}
use Rattle.script_run.specs.Meaning.{block, choose, turns, deed_of, case_deed}
use Rattle.script_run.proofs.statements.+statements.Given as goal

abbrev pub invariant-run_block-each : goal.invariant-run_block-each
invariant-run_block-each g l =
    (block (map deed_of (drop l.statement-index l.statements)) (g.C.WorkCells.store l.cells) l.here l.run.progress (g.C.WorkCells.writes l.cells)
    ≡ block (map deed_of l.statements) (g.C.WorkCells.store l.initial.cells) l.here l.initial.run.progress (g.C.WorkCells.writes l.initial.cells))
    × (g.C.WorkCells.store l.cells ≡ g.C.WorkCells.store l.initial.cells)
    × (l.run.progress.left ≤ l.initial.run.progress.left)
    × (l.run.held ≡ l.initial.run.held)

abbrev pub invariant-run_choice-each : goal.invariant-run_choice-each
invariant-run_choice-each g l =
    (choose (map case_deed (drop l.case-index l.cases)) (g.C.WorkCells.store l.cells) l.here l.run.progress (g.C.WorkCells.writes l.cells)
    ≡ choose (map case_deed l.cases) (g.C.WorkCells.store l.initial.cells) l.here l.initial.run.progress (g.C.WorkCells.writes l.initial.cells))
    × (g.C.WorkCells.store l.cells ≡ g.C.WorkCells.store l.initial.cells)
    × (g.C.WorkCells.writes l.cells ≡ g.C.WorkCells.writes l.initial.cells)
    × (l.run ≡ l.initial.run)

abbrev pub invariant-run_while-turn : goal.invariant-run_while-turn
invariant-run_while-turn g l =
    (turns l.most l.number l.test (block (map deed_of l.statements)) (g.C.WorkCells.store l.cells) l.here l.run.progress (g.C.WorkCells.writes l.cells)
    ≡ turns l.initial.run.progress.left l.number l.test (block (map deed_of l.statements)) (g.C.WorkCells.store l.initial.cells) l.here l.initial.run.progress (g.C.WorkCells.writes l.initial.cells))
    × (g.C.WorkCells.store l.cells ≡ g.C.WorkCells.store l.initial.cells)
    × (l.run.progress.left ≤ l.most)
    × (l.run.progress.left ≤ l.initial.run.progress.left)
    × (l.run.held ≡ l.initial.run.held)

abbrev pub decreases-run_while-turn : goal.decreases-run_while-turn
decreases-run_while-turn g l = l.run.progress.left
