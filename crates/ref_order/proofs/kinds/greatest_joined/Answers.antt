use Rattle.std.proofs.Common.{◌+◌}
use Rattle.ref_order.proofs.kinds.greatest_joined.Goals as goal

pub returns-clause-size : goal.returns-clause-size
returns-clause-size c =
    λ most small.
    let here = c.requires.here in
    c.larger.ensures.size (1099511627776 + most)
    (c.larger-leaf.ensures.size (1099511627776 + most) (c.plus.ensures.size 1099511627776 most here.leaf.leaf small.leaf.leaf) (c.plus-2.ensures.size 1099511627776 most here.leaf.total small.leaf.total))
    (c.larger-total.ensures.size (1099511627776 + most) (c.plus-3.ensures.size 1099511627776 most here.total.leaf small.total.leaf) (c.plus-4.ensures.size 1099511627776 most here.total.total small.total.total))
