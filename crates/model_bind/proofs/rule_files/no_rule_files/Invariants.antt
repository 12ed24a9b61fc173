use Rattle.std.proofs.Common.{◌≡◌, replicate, None}
use Rattle.model_bind.proofs.rule_files.no_rule_files.Given as goal

abbrev pub invariant-loop : goal.invariant-loop
invariant-loop l = l.files ≡ replicate l.counter None
