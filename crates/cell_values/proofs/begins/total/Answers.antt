use Rattle.std.proofs.Common.{sym, subst}
use Rattle.cube_space.specs.Cells.{IsCell}
use Rattle.cell_values.specs.Inside.Frames.{leaves_left}
use Rattle.cell_values.proofs.BeginFacts.{total-sum, total-left}
use Rattle.cell_values.proofs.begins.total.Goals as goal

pub returns-clause-work : goal.returns-clause-work
returns-clause-work c =
    let v = c.args.version.now in (
      subst (IsCell v.model.space) (sym c.new.ensures.cell) c.requires.cell,
      total-sum v c.args.cell c.new.result.walk.total (leaves_left v c.new.result) c.is_sound.ensures c.requires.cell c.requires.ungoverned c.new.ensures.sum,
    )

pub returns-clause-left : goal.returns-clause-left
returns-clause-left c = total-left c.args.version.now c.args.cell c.new.result c.is_sound.ensures c.requires.cell c.requires.consolidated c.new.ensures.all
