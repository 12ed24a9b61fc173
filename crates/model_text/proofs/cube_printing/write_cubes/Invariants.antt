use Rattle.std.proofs.Common.{take}
use Rattle.std.specs.List.{flat_map}
use Rattle.cube_lex.specs.Written.{Writes}
use Rattle.model_text.specs.Contents.{dimension_names}
use Rattle.model_text.specs.Spelled.{cube_spelled}
use Rattle.model_text.proofs.cube_printing.write_cubes.Given as goal

abbrev pub invariant-loop-cube : goal.invariant-loop-cube
invariant-loop-cube l = Writes l.fn.out.items l.out.items (flat_map (cube_spelled (dimension_names l.dims)) (take l.cube-index l.cubes))
