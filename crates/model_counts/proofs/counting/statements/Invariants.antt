use Rattle.std.proofs.Common.{◌≡◌, length}
use Rattle.model_counts.specs.Counts.{over_cubes}
use Rattle.rule_model.specs.BoundModel.{rules_of}
use Rattle.model_counts.proofs.counting.statements.Given as goal

abbrev pub invariant-loop-cube : goal.invariant-loop-cube
invariant-loop-cube l = l.count ≡ over_cubes (λ cube. length (rules_of l.model cube).statements) l.cube
