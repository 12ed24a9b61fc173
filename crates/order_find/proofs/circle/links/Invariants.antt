-- The links so far, and those of the steps that are left.
use Rattle.std.proofs.Common.{◌≡◌, ◌++◌, drop}
use Rattle.order_find.specs.Links.{links_of}
use Rattle.order_find.proofs.circle.links.Given as goal

abbrev pub invariant-each : goal.invariant-each
invariant-each l = l.links.items ++ links_of l.graph (drop l.k l.steps) ≡ links_of l.graph l.steps
