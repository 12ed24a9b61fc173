use Rattle.std.proofs.Common.{take}
use Rattle.std.specs.List.{flat_map}
use Rattle.cube_lex.specs.Written.{Writes}
use Rattle.model_text.specs.Spelled.{script_spelled}
use Rattle.model_text.proofs.printing.write_scripts.Given as goal

abbrev pub invariant-loop-script : goal.invariant-loop-script
invariant-loop-script l = Writes l.fn.out.items l.out.items (flat_map script_spelled (take l.script-index l.scripts))
