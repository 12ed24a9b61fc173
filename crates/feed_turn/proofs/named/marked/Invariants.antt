use Rattle.std.proofs.Common.{◌≡◌, false, get_or, filter}
use Rattle.std.specs.List.{range_with_len}
use Rattle.feed_turn.proofs.named.marked.Given as goal

abbrev pub invariant-each : goal.invariant-each
invariant-each l = l.found.items ≡ filter (λ e. get_or l.marks e false) (range_with_len 0 l.element)
