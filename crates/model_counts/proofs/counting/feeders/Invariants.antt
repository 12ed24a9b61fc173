use Rattle.std.proofs.Common.{◌≡◌, length}
use Rattle.model_counts.specs.Counts.{feeder_statements, over_cubes}
use Rattle.rule_model.specs.BoundModel.{rules_of}
use Rattle.model_counts.proofs.counting.feeders.Given as goal

abbrev pub invariant-loop-cube : goal.invariant-loop-cube
invariant-loop-cube l = l.count ≡ over_cubes (λ cube. feeder_statements (rules_of l.model cube).feeders) l.cube
