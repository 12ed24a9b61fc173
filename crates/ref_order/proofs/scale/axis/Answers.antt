use Rattle.std.proofs.Common.{arith}
use Rattle.ref_order.proofs.Axes.{axis-low, axis-is, size-of-axis}
use Rattle.ref_order.proofs.scale.axis.Goals as goal

pub offset_bounds-as_slice-dim : goal.offset_bounds-as_slice-dim
offset_bounds-as_slice-dim c =
    let low = (axis-low c.args.model.now.space c.space-space.result.now c.args.cube c.args.dim c.shape.result.now c.as_slice.result.now c.space-space.ensures.space c.space-space.ensures.valid c.shape.ensures c.as_slice.ensures c.requires.dim).low in
    omega (arith, low, c.as_slice.type_inv)

pub bounds-as_slice-dim : goal.bounds-as_slice-dim
bounds-as_slice-dim c =
    (axis-low c.args.model.now.space c.space-space.result.now c.args.cube c.args.dim c.shape.result.now c.as_slice.result.now c.space-space.ensures.space c.space-space.ensures.valid c.shape.ensures c.as_slice.ensures c.requires.dim).low

pub dimension-requires : goal.dimension-requires
dimension-requires c =
    (axis-low c.args.model.now.space c.space-space.result.now c.args.cube c.args.dim c.shape.result.now c.as_slice.result.now c.space-space.ensures.space c.space-space.ensures.valid c.shape.ensures c.as_slice.ensures c.requires.dim).number

pub returns-clause-axis : goal.returns-clause-axis
returns-clause-axis c =
    axis-is c.args.model.now.space c.space-space.result.now c.args.cube c.args.dim c.shape.result.now c.as_slice.result.now c.dimension.result.now c.space-space.ensures.space c.space-space.ensures.valid c.shape.ensures c.as_slice.ensures c.requires.dim c.dimension.ensures

pub returns-clause-size : goal.returns-clause-size
returns-clause-size c = size-of-axis c.args.model.now.space c.args.cube c.args.dim c.dimension.result.now (returns-clause-axis c)
