use Rattle.std.proofs.Common.{◌≡◌, drop, true}
use Rattle.cube_space.specs.Radix.{are_digits}
use Rattle.cube_space.specs.Layout.{axes_of, sizes_of}
use Rattle.cube_space.specs.Cells.{are_leaves}
use Rattle.cube_space.proofs.leaves.are_leaves.Given as goal

abbrev pub invariant-loop-i : goal.invariant-loop-i
invariant-loop-i l = record {
  digits : are_digits (sizes_of (axes_of l.dimensions (drop l.i l.dims))) (drop l.i l.elements) ≡ true;
  leaves : are_leaves (axes_of l.dimensions l.dims) l.elements ≡ are_leaves (axes_of l.dimensions (drop l.i l.dims)) (drop l.i l.elements);
}
