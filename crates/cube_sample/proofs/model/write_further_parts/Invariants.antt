use Rattle.std.proofs.Common.{◌≡◌, ◌+◌, ◌++◌}
use Rattle.cube_sample.specs.Sample.{further_part, repeated}
use Rattle.cube_sample.proofs.model.write_further_parts.Given as goal

abbrev pub invariant-loop-index : goal.invariant-loop-index
invariant-loop-index l = l.out.items ≡ l.fn.out.items ++ repeated (λ i. further_part l.fn.letter (i + 2)) l.index
