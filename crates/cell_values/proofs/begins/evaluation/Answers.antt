use Rattle.std.proofs.Common.{refl, None}
use Rattle.cell_values.specs.declared.frames.Evaluation.{Evaluation}
use Rattle.cell_values.proofs.FrameFacts.{evaluation-opens}
use Rattle.cell_values.proofs.begins.evaluation.Goals as goal

pub returns-clause-left : goal.returns-clause-left
returns-clause-left c =
    let e : Evaluation = record { cell = c.args.cell; statement = c.args.statement; known = c.args.known; asked = None; pending = c.new.result } in
    (evaluation-opens c.args.version.now e c.args.cell c.args.statement c.requires.cell c.requires.governs refl refl c.requires.known refl c.new.ensures.items).1
