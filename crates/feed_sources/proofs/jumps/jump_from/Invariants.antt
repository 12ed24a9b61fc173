-- The worth of the place before.
use Rattle.std.proofs.Common.{◌≡◌, ◌<◌, drop}
use Rattle.cube_space.specs.Layout.{axes_of, sizes_of}
use Rattle.cube_space.specs.Radix.{product}
use Rattle.feed_sources.proofs.jumps.jump_from.Given as goal

abbrev pub invariant-places : goal.invariant-places
invariant-places l = record {
  worth : l.worth ≡ product (drop l.place (sizes_of (axes_of l.space.dimensions l.dims)));
  some : 0 < l.worth;
}
