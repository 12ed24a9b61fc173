use Rattle.std.proofs.Common.{subst, OnOk}
use Rattle.cube_lex.specs.Written.{Spaces}
use Rattle.rule_printer.proofs.WrittenParts.{then_adds}
use Rattle.rule_printer.specs.Spelled.{name_spelled, dimension_spelled}
use Rattle.rule_printer.proofs.parts.write_simple.Goals as goal

pub returns : goal.returns
returns c =
    then_adds c.write_text.result c.args.out.now.items c.write_dimension.new.out.items c.write_text.new.out.items (dimension_spelled c.args.simple.now.dim) (name_spelled c.args.simple.now.element) c.in_ok-write_dimension.ensures
    (subst (λ n. OnOk c.write_text.result (Spaces c.write_dimension.new.out.items c.write_text.new.out.items (name_spelled n))) c.shown.ensures.value c.write_text.ensures)
