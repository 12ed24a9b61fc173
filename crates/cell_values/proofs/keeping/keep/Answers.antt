use Rattle.cell_values.proofs.ReadFacts.{is-kept}
use Rattle.cell_values.proofs.keeping.keep.Goals as goal

pub returns-clause-kept : goal.returns-clause-kept
returns-clause-kept g c = is-kept (g.M.Memory.known c.keep.new.self) c.args.cell c.keep.result c.keep.ensures.learned
