use Rattle.cell_values.proofs.BeginFacts.{components-left_less}
use Rattle.cell_values.proofs.begins.component_sum.Goals as goal

pub returns-clause-left : goal.returns-clause-left
returns-clause-left c = components-left_less c.args.version.now c.args.cell c.new.result c.args.dim c.requires.grounded c.new.ensures.all
