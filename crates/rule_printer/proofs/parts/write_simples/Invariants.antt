use Rattle.std.proofs.Common.{take}
use Rattle.cube_lex.specs.Written.{Spaces}
use Rattle.rule_printer.specs.Spelled.{listed_spelled, simple_spelled}
use Rattle.rule_printer.proofs.parts.write_simples.Given as goal

abbrev pub invariant-loop-index : goal.invariant-loop-index
invariant-loop-index l = Spaces l.fn.out.items l.out.items (listed_spelled simple_spelled (take l.index l.simples))
