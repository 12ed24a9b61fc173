use Rattle.std.proofs.Common.{◌≡◌, true, false, take, IfSome}
use Rattle.std.specs.List.{list_all}
use Rattle.std.specs.Option.{option_map_or}
use Rattle.cover_laws.specs.Looking.{sent}
use Rattle.feed_cover.proofs.each.each_sent.Given as goal

abbrev pub invariant-each : goal.invariant-each
invariant-each g l = record {
  all : list_all (λ pair. option_map_or (g.T.ElementTest.passes l.test) (sent l.to pair.0) false) (take l.k l.pairs) ≡ true;
  last : IfSome l.last (λ element. g.T.ElementTest.passes l.test element ≡ true);
}
