use Rattle.std.proofs.Common.{length, ◌-◌}
use Rattle.cell_spread.proofs.count.+leaf_product.Given as goal

abbrev pub decreases-leaf_product : goal.decreases-leaf_product
decreases-leaf_product l = length l.dims.now - l.from
