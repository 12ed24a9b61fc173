use Rattle.std.specs.List.{IsFirstBest}
use Rattle.order_find.specs.Links.{is_before}
use Rattle.order_find.proofs.circle.first_link.Given as goal

abbrev pub invariant-loop-i : goal.invariant-loop-i
invariant-loop-i l = IsFirstBest is_before l.links l.i l.best
