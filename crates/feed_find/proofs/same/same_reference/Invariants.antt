use Rattle.std.proofs.Common.{◌≡◌, drop}
use Rattle.std.specs.Cmp.Lexicographic.{pointwise}
use Rattle.feed_find.specs.Found.{same_arg}
use Rattle.feed_find.proofs.same.same_reference.Given as goal

abbrev pub invariant-each : goal.invariant-each
invariant-each l = pointwise same_arg (drop l.place l.args) (drop l.place l.its) ≡ pointwise same_arg l.args l.its
