use Rattle.cell_values.proofs.Members.{has-is}
use Rattle.cell_values.proofs.told.has.Goals as goal

pub returns : goal.returns
returns g c = has-is (g.W.CellSet.cells c.args.set.now) c.args.cell c.has.result c.has.ensures
