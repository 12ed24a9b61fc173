use Rattle.std.proofs.Common.{take}
use Rattle.std.specs.List.{flat_map}
use Rattle.cube_lex.specs.Written.{Spaces}
use Rattle.model_text.specs.Spelled.{next_position_spelled}
use Rattle.model_text.proofs.order_printing.write_further_positions.Given as goal

abbrev pub invariant-loop-position : goal.invariant-loop-position
invariant-loop-position l = Spaces l.fn.out.items l.out.items (flat_map next_position_spelled (take l.position-index l.positions))
