use Rattle.std.proofs.Common.{◌∙◌, sym, subst}
use Rattle.bind_arguments.specs.Numbers.{AreTablesIn}
use Rattle.bind_arguments.proofs.NumbersMade.{table_in}
use Rattle.bind_arguments.proofs.bound_tables.BoundTables.find.Goals as goal

pub returns-in-Some-get : goal.returns-in-Some-get
returns-in-Some-get c space are =
    let found = c.in-Some-get.ensures.lookup in
    c.numbers_for.ensures space (table_in space c.deref.result.now c.in-Some.place c.in-Some-get.made.now
    (subst (AreTablesIn space) (sym (c.deref.ensures.value ∙ c.self.view_is)) are) found.3.0 found.1)
