use Rattle.std.proofs.Common.{subst, ap}
use Rattle.std.proofs.lemmas.List.{take_all}
use Rattle.cube_lex.specs.Written.{Spaces}
use Rattle.rule_printer.proofs.WrittenParts.{adds_item, one_passes}
use Rattle.rule_printer.specs.Spelled.{listed_spelled, target_spelled}
use Rattle.rule_printer.specs.Writable.{is_writable_target}
use Rattle.rule_printer.proofs.printing.write_targets.Goals as goal

pub write_target-requires : goal.write_target-requires
write_target-requires c = one_passes is_writable_target c.args.targets.now c.loop-index.index c.index-targets-index.result c.loop-index-test.true c.index-targets-index.is c.requires

pub loop-index-preserved : goal.loop-index-preserved
loop-index-preserved c = adds_item target_spelled c.args.out.now.items c.loop-index.out.items c.write_separator.new.out.items c.write_target.new.out.items c.args.targets.now c.loop-index.index c.index-targets-index.result c.loop-index-test.true c.index-targets-index.is
    c.loop-index.invariant c.in_ok-write_separator.ensures c.in_ok-write_target.ensures

pub returns : goal.returns
returns c = subst (Spaces c.args.out.now.items c.loop-index.out.items) (ap (listed_spelled target_spelled) (take_all c.loop-index.index c.args.targets.now c.loop-index-test.false)) c.loop-index.invariant
