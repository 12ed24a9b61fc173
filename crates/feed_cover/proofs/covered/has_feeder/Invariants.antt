use Rattle.std.proofs.Common.{◌≡◌, false, not, ◌==◌, length}
use Rattle.cover_laws.specs.Looking.{some_below}
use Rattle.rule_model.specs.BoundModel.{rules_of}
use Rattle.feed_cover.proofs.covered.has_feeder.Given as goal

abbrev pub invariant-each : goal.invariant-each
invariant-each l = some_below (λ own. not (length (rules_of l.model own).feeders == 0)) l.own ≡ false
