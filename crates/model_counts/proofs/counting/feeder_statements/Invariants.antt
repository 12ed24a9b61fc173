use Rattle.std.proofs.Common.{◌≡◌, max, drop}
use Rattle.model_counts.specs.Counts.{feeder_statements}
use Rattle.model_counts.proofs.counting.feeder_statements.Given as goal

abbrev pub invariant-loop-feeder : goal.invariant-loop-feeder
invariant-loop-feeder l = max l.count (feeder_statements (drop l.feeder-index l.feeders)) ≡ feeder_statements l.feeders
