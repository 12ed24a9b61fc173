use Rattle.std.proofs.Common.{◌≡◌, ◌+◌, ◌*◌, ◌≤◌, drop, true}
use Rattle.dim_core.specs.Outline.{most_elements}
use Rattle.cube_space.specs.Radix.{are_digits}
use Rattle.cube_space.specs.Layout.{axes_of, sizes_of}
use Rattle.model_laws.proofs.Levels.{level_sum}
use Rattle.rule_dense.proofs.level.levels_of.Given as goal

abbrev pub invariant-loop-place : goal.invariant-loop-place
invariant-loop-place l = record {
  digits : are_digits (sizes_of (axes_of l.space.dimensions (drop l.place l.dims))) (drop l.place l.elements) ≡ true;
  sum : l.levels + level_sum (axes_of l.space.dimensions (drop l.place l.dims)) (drop l.place l.elements) ≡ level_sum (axes_of l.space.dimensions l.dims) l.elements;
  most : l.levels ≤ l.place * most_elements;
}
