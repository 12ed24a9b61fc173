use Rattle.std.proofs.Common.{subst, ap}
use Rattle.std.proofs.lemmas.List.{take_all}
use Rattle.std.specs.List.{flat_map}
use Rattle.cube_lex.specs.Written.{Writes}
use Rattle.rule_printer.proofs.WrittenParts.{adds_more, one_passes}
use Rattle.rule_printer.specs.Spelled.{feeder_spelled}
use Rattle.rule_printer.specs.Writable.{is_writable_feeder}
use Rattle.rule_printer.proofs.printing.write_each_feeder.Goals as goal

pub write_feeder-requires : goal.write_feeder-requires
write_feeder-requires c = one_passes is_writable_feeder c.args.feeders.now c.loop-index.index c.index-feeders-index.result c.loop-index-test.true c.index-feeders-index.is c.requires

pub loop-index-preserved : goal.loop-index-preserved
loop-index-preserved c = adds_more feeder_spelled c.args.out.now.items c.loop-index.out.items c.write_feeder.new.out.items c.args.feeders.now c.loop-index.index c.index-feeders-index.result c.loop-index-test.true c.index-feeders-index.is c.loop-index.invariant c.in_ok-write_feeder.ensures

pub returns : goal.returns
returns c = subst (Writes c.args.out.now.items c.loop-index.out.items) (ap (flat_map feeder_spelled) (take_all c.loop-index.index c.args.feeders.now c.loop-index-test.false)) c.loop-index.invariant
