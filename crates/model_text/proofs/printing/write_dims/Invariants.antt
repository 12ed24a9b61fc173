use Rattle.std.proofs.Common.{take}
use Rattle.std.specs.List.{All, flat_map}
use Rattle.cube_lex.specs.Written.{Writes}
use Rattle.model_text.specs.Readers.Views.{IsValid}
use Rattle.model_text.specs.Spelled.{dim_spelled}
use Rattle.model_text.proofs.printing.write_dims.Given as goal

abbrev pub invariant-loop-dim : goal.invariant-loop-dim
invariant-loop-dim l = All IsValid (take l.dim-index l.dims) × Writes l.fn.out.items l.out.items (flat_map dim_spelled (take l.dim-index l.dims))
