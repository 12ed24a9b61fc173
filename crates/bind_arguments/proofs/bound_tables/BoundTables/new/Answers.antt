use Rattle.std.proofs.Common.{sym, subst}
use Rattle.bind_arguments.specs.Numbers.{AreTablesIn}
use Rattle.bind_arguments.proofs.NumbersMade.{no_tables}
use Rattle.bind_arguments.proofs.bound_tables.BoundTables.new.Goals as goal

pub returns : goal.returns
returns c space = subst (AreTablesIn space) (sym c.new.ensures.items) (no_tables space)
