use Rattle.std.proofs.Common.{arith}
use Rattle.ref_order.proofs.Axes.{axis-low}
use Rattle.feed_cover.proofs.Tables.{number-is}
use Rattle.feed_cover.proofs.table.number.Goals as goal

pub offset_bounds-as_slice-dim : goal.offset_bounds-as_slice-dim
offset_bounds-as_slice-dim c =
    let low = (axis-low c.args.model.now.space c.space.result.now c.args.cube c.args.dim c.shape.result.now c.as_slice.result.now c.space.ensures.space c.space.ensures.valid c.shape.ensures c.as_slice.ensures c.requires.dim).low in
    omega (arith, low, c.as_slice.type_inv)

pub bounds-as_slice-dim : goal.bounds-as_slice-dim
bounds-as_slice-dim c =
    (axis-low c.args.model.now.space c.space.result.now c.args.cube c.args.dim c.shape.result.now c.as_slice.result.now c.space.ensures.space c.space.ensures.valid c.shape.ensures c.as_slice.ensures c.requires.dim).low

pub returns : goal.returns
returns c =
    number-is c.args.model.now.space c.space.result.now c.args.cube c.args.dim c.shape.result.now c.as_slice.result.now c.space.ensures.space c.space.ensures.valid c.shape.ensures c.as_slice.ensures c.requires.dim
