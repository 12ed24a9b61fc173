use Rattle.feed_find.specs.Views.{lists_in}
use Rattle.feed_find.proofs.Adding.{AreUpTo}
use Rattle.feed_find.proofs.added.with_groups.Given as goal

abbrev pub invariant-each : goal.invariant-each
invariant-each l = AreUpTo l.cube l.fn.rules.items (lists_in l.fn.groups.items) l.rules.items (lists_in l.groups.items)
