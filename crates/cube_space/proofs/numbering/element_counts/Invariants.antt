use Rattle.std.proofs.Common.{◌≡◌, take, All}
use Rattle.dim_core.specs.Outline.{IsDimension}
use Rattle.cube_space.specs.Layout.{sizes_of}
use Rattle.cube_space.proofs.numbering.element_counts.Given as goal

abbrev pub invariant-loop-dimension : goal.invariant-loop-dimension
invariant-loop-dimension l = record {
  counts : l.counts.items ≡ sizes_of (take l.dimension-index l.dimensions);
  valid : All IsDimension (take l.dimension-index l.dimensions);
}
