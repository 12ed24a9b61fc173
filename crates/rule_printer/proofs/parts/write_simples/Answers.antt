use Rattle.std.proofs.Common.{subst, ap}
use Rattle.std.proofs.lemmas.List.{take_all}
use Rattle.cube_lex.specs.Written.{Spaces}
use Rattle.rule_printer.proofs.WrittenParts.{adds_item, one_passes}
use Rattle.rule_printer.specs.Spelled.{listed_spelled, simple_spelled}
use Rattle.rule_printer.specs.Writable.{is_writable_simple}
use Rattle.rule_printer.proofs.parts.write_simples.Goals as goal

pub write_simple-requires : goal.write_simple-requires
write_simple-requires c = one_passes is_writable_simple c.args.simples.now c.loop-index.index c.index-simples-index.result c.loop-index-test.true c.index-simples-index.is c.requires

pub loop-index-preserved : goal.loop-index-preserved
loop-index-preserved c = adds_item simple_spelled c.args.out.now.items c.loop-index.out.items c.write_separator.new.out.items c.write_simple.new.out.items c.args.simples.now c.loop-index.index c.index-simples-index.result c.loop-index-test.true c.index-simples-index.is
    c.loop-index.invariant c.in_ok-write_separator.ensures c.in_ok-write_simple.ensures

pub returns : goal.returns
returns c = subst (Spaces c.args.out.now.items c.loop-index.out.items) (ap (listed_spelled simple_spelled) (take_all c.loop-index.index c.args.simples.now c.loop-index-test.false)) c.loop-index.invariant
