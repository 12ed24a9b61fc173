use Rattle.std.proofs.Common.{subst, ap}
use Rattle.std.proofs.lemmas.List.{take_all}
use Rattle.std.specs.List.{flat_map}
use Rattle.cube_lex.specs.Written.{Writes}
use Rattle.rule_printer.proofs.WrittenParts.{adds_more, one_passes}
use Rattle.rule_printer.specs.Spelled.{statement_spelled}
use Rattle.rule_printer.specs.Writable.{is_writable_statement}
use Rattle.rule_printer.proofs.printing.write_statements.Goals as goal

pub write_statement-requires : goal.write_statement-requires
write_statement-requires c = one_passes is_writable_statement c.args.statements.now c.loop-index.index c.index-statements-index.result c.loop-index-test.true c.index-statements-index.is c.requires

pub loop-index-preserved : goal.loop-index-preserved
loop-index-preserved c = adds_more statement_spelled c.args.out.now.items c.loop-index.out.items c.write_statement.new.out.items c.args.statements.now c.loop-index.index c.index-statements-index.result c.loop-index-test.true c.index-statements-index.is c.loop-index.invariant c.in_ok-write_statement.ensures

pub returns : goal.returns
returns c = subst (Writes c.args.out.now.items c.loop-index.out.items) (ap (flat_map statement_spelled) (take_all c.loop-index.index c.args.statements.now c.loop-index-test.false)) c.loop-index.invariant
