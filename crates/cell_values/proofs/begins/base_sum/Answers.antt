use Rattle.cell_values.proofs.BeginFacts.{base-left}
use Rattle.cell_values.proofs.begins.base_sum.Goals as goal

pub returns-clause-left : goal.returns-clause-left
returns-clause-left c = base-left c.args.version.now c.args.cell c.new.result c.is_sound.ensures c.requires.cell c.requires.consolidated c.new.ensures.all
