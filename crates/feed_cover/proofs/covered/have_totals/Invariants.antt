use Rattle.std.proofs.Common.{◌≡◌, false, take}
use Rattle.std.specs.Prelude.{is_some}
use Rattle.std.specs.List.{list_any}
use Rattle.rule_model.specs.declared.rules.Statement.{Statement}
use Rattle.feed_cover.proofs.covered.have_totals.Given as goal

abbrev pub invariant-each : goal.invariant-each
invariant-each l = list_any (λ (s : Statement). is_some s.cons) (take l.k l.statements) ≡ false
