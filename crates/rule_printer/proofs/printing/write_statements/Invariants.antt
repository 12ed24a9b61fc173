use Rattle.std.proofs.Common.{take}
use Rattle.std.specs.List.{flat_map}
use Rattle.cube_lex.specs.Written.{Writes}
use Rattle.rule_printer.specs.Spelled.{statement_spelled}
use Rattle.rule_printer.proofs.printing.write_statements.Given as goal

abbrev pub invariant-loop-index : goal.invariant-loop-index
invariant-loop-index l = Writes l.fn.out.items l.out.items (flat_map statement_spelled (take l.index l.statements))
