use Rattle.std.proofs.Common.{arith, ◌<◌, length}
use Rattle.ref_order.proofs.Args.{args-long, fixed-below, arg-low}
use Rattle.ref_order.proofs.named.+fixed_leaves.Goals as goal

pub is_leaf_element-requires-clause-dim : goal.is_leaf_element-requires-clause-dim
is_leaf_element-requires-clause-dim t c =
    let long = args-long c.args.model.now.space c.args.cube c.args.reference.now c.requires.reference in
    let low : c.args.from < length c.args.reference.now.args = arg-low c.args.from c.as_slice-args.result.now c.args.reference.now.args c.as_slice-args.ensures c.if-from-args.false c.requires.from in
    omega (arith, long, low)

pub is_leaf_element-requires-clause-element : goal.is_leaf_element-requires-clause-element
is_leaf_element-requires-clause-element t c =
    fixed-below c.args.model.now.space c.args.cube c.args.reference.now c.as_slice-args.result.now c.args.from c.in-Fixed.element c.index-args-from.result c.requires.reference c.as_slice-args.ensures
    (arg-low c.args.from c.as_slice-args.result.now c.args.reference.now.args c.as_slice-args.ensures c.if-from-args.false c.requires.from) c.index-args-from.is c.in-Fixed.is
