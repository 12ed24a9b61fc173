use Rattle.std.proofs.Common.{◌≡◌, false, take}
use Rattle.std.specs.List.{list_any}
use Rattle.cube_space.specs.Layout.{axes}
use Rattle.cover_laws.specs.Covered.{counts_in}
use Rattle.feed_cover.proofs.source.is_source.Given as goal

abbrev pub invariant-each : goal.invariant-each
invariant-each l = list_any (λ element. counts_in (axes l.model.space l.cube) l.place element l.leaf) (take l.k l.listed) ≡ false
