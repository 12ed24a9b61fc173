use Rattle.std.proofs.Common.{◌≡◌, take}
use Rattle.feed_sources.proofs.same.are_same.Given as goal

abbrev pub invariant-each : goal.invariant-each
invariant-each l = take l.k l.one ≡ take l.k l.other
