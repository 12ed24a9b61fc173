use Rattle.std.proofs.Common.{◌≡◌, true, ◌||◌, take, is_none}
use Rattle.std.specs.List.{list_all}
use Rattle.rule_model.specs.declared.rules.Statement.{Statement}
use Rattle.cover_laws.specs.Covered.{names_no_total}
use Rattle.feed_cover.proofs.covered.names_no_governed.Given as goal

abbrev pub invariant-each : goal.invariant-each
invariant-each l = list_all (λ (s : Statement). is_none s.cons || names_no_total l.model l.cube l.area l.reference s.area) (take l.k l.statements) ≡ true
