use Rattle.std.proofs.Common.{take}
use Rattle.std.specs.List.{flat_map}
use Rattle.cube_lex.specs.Written.{Spaces}
use Rattle.dim_core.specs.Outline.{names_of}
use Rattle.dim_text.proofs.PrintedParts.{further_of}
use Rattle.dim_text.proofs.printing.write_further.Given as goal

abbrev pub invariant-loop-part : goal.invariant-loop-part
invariant-loop-part l = Spaces l.fn.out.items l.out.items (flat_map (further_of (names_of l.dimension.elements)) (take l.part-index l.parts))
