use Rattle.std.proofs.Common.{take}
use Rattle.std.specs.List.{flat_map}
use Rattle.cube_lex.specs.Written.{Spaces}
use Rattle.model_text.specs.Contents.{dimension_names}
use Rattle.model_text.specs.Spelled.{next_dimension_spelled}
use Rattle.model_text.proofs.cube_printing.write_further_numbers.Given as goal

abbrev pub invariant-loop-number : goal.invariant-loop-number
invariant-loop-number l = Spaces l.fn.out.items l.out.items (flat_map (next_dimension_spelled (dimension_names l.dims)) (take l.number-index l.numbers))
