use Rattle.std.proofs.Common.{◌≡◌, drop}
use Rattle.feed_print.specs.FeederTexts.{shift}
use Rattle.feed_print.proofs.Maps.{same_map}
use Rattle.feed_print.proofs.moves.moves_by.Given as goal

abbrev pub invariant-each : goal.invariant-each
invariant-each l = same_map (shift l.size l.from l.target) l.to
    ≡ same_map (drop l.element (shift l.size l.from l.target)) (drop l.element l.to)
