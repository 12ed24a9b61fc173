use Rattle.std.proofs.Common.{take}
use Rattle.std.specs.List.{flat_map}
use Rattle.cube_lex.specs.Written.{Writes}
use Rattle.dim_core.specs.Outline.{names_of}
use Rattle.dim_text.proofs.PrintedParts.{attribute_of}
use Rattle.dim_text.proofs.printing.write_attributes.Given as goal

abbrev pub invariant-loop-attribute : goal.invariant-loop-attribute
invariant-loop-attribute l = Writes l.fn.out.items l.out.items (flat_map (attribute_of (names_of l.dimension.elements)) (take l.attribute-index l.attribute-items))
