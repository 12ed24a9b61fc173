use Rattle.std.proofs.Common.{◌∙◌, ap, sym, subst}
use Rattle.bind_arguments.specs.Numbers.{AreTablesIn, numbers_over}
use Rattle.bind_arguments.proofs.Around.{found_dimension}
use Rattle.bind_arguments.proofs.NumbersMade.{table_more}
use Rattle.bind_arguments.proofs.bound_tables.BoundTables.table_of.Goals as goal

pub returns-in_ok-add-in-None-clause-tables : goal.returns-in_ok-add-in-None-clause-tables
returns-in_ok-add-in-None-clause-tables c =
    let space = c.args.space.now in
    let at = found_dimension space c.args.dim c.dimension.result.now c.dimension.ensures in
    subst (AreTablesIn space) (sym c.in_ok-add-in-None.ensures.added)
    (table_more space c.args.self.now _ c.requires.tables (c.in_ok-numbers-in-None.ensures ∙ ap (λ d. numbers_over d c.args.function) (sym at)))
