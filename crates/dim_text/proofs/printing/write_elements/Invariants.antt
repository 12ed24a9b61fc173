use Rattle.std.proofs.Common.{take}
use Rattle.std.specs.List.{flat_map}
use Rattle.cube_lex.specs.Written.{Writes}
use Rattle.dim_core.specs.Written.{written}
use Rattle.dim_text.specs.Spelled.{element_spelled}
use Rattle.dim_text.proofs.printing.write_elements.Given as goal

abbrev pub invariant-loop-element : goal.invariant-loop-element
invariant-loop-element l = Writes l.fn.out.items l.out.items (flat_map element_spelled (take l.element (written l.dimension).elements))
