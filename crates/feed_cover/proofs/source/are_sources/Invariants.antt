use Rattle.std.proofs.Common.{◌≡◌, true, take}
use Rattle.std.specs.List.{list_any, list_all}
use Rattle.cube_space.specs.Layout.{axes}
use Rattle.cover_laws.specs.Covered.{counts_in}
use Rattle.feed_cover.proofs.source.are_sources.Given as goal

abbrev pub invariant-each : goal.invariant-each
invariant-each l = list_all (λ pair. list_any (λ element. counts_in (axes l.model.space l.cube) l.place element pair.0) l.listed) (take l.k l.pairs) ≡ true
