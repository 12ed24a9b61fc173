use Rattle.std.proofs.Common.{◌≡◌, ◌+◌, ◌++◌}
use Rattle.cube_sample.specs.Sample.{leaf_line, repeated}
use Rattle.cube_sample.proofs.model.write_leaves.Given as goal

abbrev pub invariant-loop-index : goal.invariant-loop-index
invariant-loop-index l = l.out.items ≡ l.fn.out.items ++ repeated (λ i. leaf_line l.fn.letter (i + 1)) l.index
