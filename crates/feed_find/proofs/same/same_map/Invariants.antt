use Rattle.std.proofs.Common.{◌≡◌, drop, nat_eq}
use Rattle.std.specs.Option.{option_eq}
use Rattle.std.specs.Cmp.Lexicographic.{pointwise}
use Rattle.feed_find.proofs.same.same_map.Given as goal

abbrev pub invariant-each : goal.invariant-each
invariant-each l = pointwise (option_eq nat_eq) (drop l.element l.one) (drop l.element l.other) ≡ pointwise (option_eq nat_eq) l.one l.other
