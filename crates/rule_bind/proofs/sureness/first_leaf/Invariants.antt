use Rattle.std.proofs.Common.{◌≡◌, drop, find}
use Rattle.rule_bind.specs.Sureness.{elements_in, is_leaf_of, first_leaf}
use Rattle.rule_bind.proofs.sureness.first_leaf.Given as goal

abbrev pub invariant-each : goal.invariant-each
invariant-each l = find (is_leaf_of l.dim) (drop l.index (elements_in l.dim l.set)) ≡ first_leaf l.dim l.set
