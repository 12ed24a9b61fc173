use Rattle.std.proofs.Common.{subst, OnOk}
use Rattle.cube_lex.specs.Written.{Spaces}
use Rattle.rule_printer.proofs.WrittenParts.{then_adds}
use Rattle.rule_printer.specs.Spelled.{dimension_spelled, elements_spelled}
use Rattle.rule_printer.proofs.printing.write_entry.Goals as goal

pub returns : goal.returns
returns c =
    then_adds c.write_elements.result c.args.out.now.items c.write_dimension.new.out.items c.write_elements.new.out.items (dimension_spelled c.args.entry.now.dim) (elements_spelled c.args.entry.now.elements) c.in_ok-write_dimension.ensures
    (subst (λ l. OnOk c.write_elements.result (Spaces c.write_dimension.new.out.items c.write_elements.new.out.items (elements_spelled l))) c.as_slice.ensures c.write_elements.ensures)
