use Rattle.std.proofs.Common.{◌≡◌, drop}
use Rattle.feed_print.specs.FeederTexts.{first_sent}
use Rattle.feed_print.proofs.moves.first_sent.Given as goal

abbrev pub invariant-each : goal.invariant-each
invariant-each l = first_sent 0 l.to ≡ first_sent l.element (drop l.element l.to)
