use Rattle.std.proofs.Common.{◌≡◌, true}
use Rattle.std.specs.List.{list_all, range_with_len}
use Rattle.cover_laws.specs.Looking.{sent}
use Rattle.feed_turn.specs.Shift.{goes}
use Rattle.feed_turn.proofs.shift.sends_alike.Given as goal

abbrev pub invariant-each : goal.invariant-each
invariant-each l = list_all (λ element. goes l.map element (sent l.back element)) (range_with_len 0 l.element) ≡ true
