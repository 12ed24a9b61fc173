use Rattle.std.proofs.Common.{subst, ap}
use Rattle.std.proofs.lemmas.List.{take_all}
use Rattle.cube_lex.specs.Written.{Spaces}
use Rattle.rule_printer.proofs.WrittenParts.{adds_item}
use Rattle.rule_printer.specs.Spelled.{listed_spelled, name_spelled}
use Rattle.rule_printer.proofs.parts.write_names.Goals as goal

pub loop-index-preserved : goal.loop-index-preserved
loop-index-preserved c = adds_item name_spelled c.args.out.now.items c.loop-index.out.items c.write_separator.new.out.items c.write_text.new.out.items c.args.names.now c.loop-index.index c.index-names-index.result c.loop-index-test.true c.index-names-index.is
    c.loop-index.invariant c.in_ok-write_separator.ensures (subst (λ n. Spaces c.write_separator.new.out.items c.write_text.new.out.items (name_spelled n)) c.shown.ensures.value c.in_ok-write_text.ensures)

pub returns : goal.returns
returns c = subst (Spaces c.args.out.now.items c.loop-index.out.items) (ap (listed_spelled name_spelled) (take_all c.loop-index.index c.args.names.now c.loop-index-test.false)) c.loop-index.invariant
