use Rattle.std.proofs.Common.{◌≡◌, true, Some}
use Rattle.std.specs.List.{list_all, range_with_len}
use Rattle.feed_turn.specs.Shift.{goes}
use Rattle.feed_turn.proofs.back.keeps_each.Given as goal

abbrev pub invariant-each : goal.invariant-each
invariant-each l = list_all (λ e. goes l.to e (Some e)) (range_with_len 0 l.element) ≡ true
