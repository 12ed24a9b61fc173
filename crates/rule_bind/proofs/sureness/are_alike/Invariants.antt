use Rattle.std.proofs.Common.{◌≡◌, drop}
use Rattle.std.specs.List.{list_all}
use Rattle.rule_bind.specs.Sureness.{elements_in, is_alike}
use Rattle.rule_bind.proofs.sureness.are_alike.Given as goal

abbrev pub invariant-each : goal.invariant-each
invariant-each l = list_all (is_alike l.dim l.test l.table l.truth) (drop l.index (elements_in l.dim l.set)) ≡ list_all (is_alike l.dim l.test l.table l.truth) (elements_in l.dim l.set)
