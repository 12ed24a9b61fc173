-- The cells of the leaves so far, in the dimension at the place.
use Rattle.std.proofs.Common.{◌≡◌, ◌-◌, ◌+◌, ◌*◌, length, take, drop}
use Rattle.cube_space.specs.Layout.{axes_of, dims_of}
use Rattle.feed_map.specs.Inside.Gains.{Gains}
use Rattle.feed_map.specs.Inside.Leaves.{GoesOnWithin}
use Rattle.feed_map.proofs.leaves.+add_product.Given as goal

abbrev pub decreases-add_product : goal.decreases-add_product
decreases-add_product l = 2 * (length (dims_of l.below.model.now.space l.below.cube) - l.place) + 1

abbrev pub decreases-add_choice : goal.decreases-add_choice
decreases-add_choice l = 2 * (length (dims_of l.below.model.now.space l.below.cube) - l.place)

abbrev pub invariant-add_product-each : goal.invariant-add_product-each
invariant-add_product-each l = record {
  gains : Gains (GoesOnWithin l.below.model.now.space l.below.cube l.below.roots.now l.place l.dimension
      (axes_of l.below.model.now.space.dimensions (drop (l.place + 1) (dims_of l.below.model.now.space l.below.cube))) (take l.place l.fn.at) l.choice) l.fn.growth l.growth;
  front : take l.place l.at ≡ take l.place l.fn.at;
}
