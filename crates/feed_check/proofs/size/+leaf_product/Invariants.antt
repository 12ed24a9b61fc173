use Rattle.std.proofs.Common.{◌-◌, length}
use Rattle.cube_space.specs.Layout.{axes}
use Rattle.feed_check.proofs.size.+leaf_product.Given as goal

abbrev pub decreases-leaf_product : goal.decreases-leaf_product
decreases-leaf_product l = length (axes l.model.now.space l.cube) - l.dim
