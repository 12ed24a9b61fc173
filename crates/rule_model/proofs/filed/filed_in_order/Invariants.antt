use Rattle.std.proofs.Common.{◌≡◌, ◌++◌, drop}
use Rattle.rule_model.specs.Inside.Files.{filed_from}
use Rattle.rule_model.proofs.filed.filed_in_order.Given as goal

-- the feeders that are filed, before those that are left
abbrev pub invariant-each : goal.invariant-each
invariant-each l = l.filed.items ++ filed_from l.space l.place (drop l.place l.feeders) ≡ filed_from l.space 0 l.feeders
