use Rattle.std.proofs.Common.{arith}
use Rattle.ref_order.proofs.Axes.{axis-low}
use Rattle.ref_order.proofs.Weighing.{table-at}
use Rattle.ref_order.proofs.scale.weights.Goals as goal

pub offset_bounds-as_slice-dim : goal.offset_bounds-as_slice-dim
offset_bounds-as_slice-dim c =
    let low = (axis-low c.args.model.now.space c.space.result.now c.args.cube c.args.dim c.shape.result.now c.as_slice.result.now c.space.ensures.space c.space.ensures.valid c.shape.ensures c.as_slice.ensures c.requires.dim).low in
    omega (arith, low, c.as_slice.type_inv)

pub bounds-as_slice-dim : goal.bounds-as_slice-dim
bounds-as_slice-dim c =
    (axis-low c.args.model.now.space c.space.result.now c.args.cube c.args.dim c.shape.result.now c.as_slice.result.now c.space.ensures.space c.space.ensures.valid c.shape.ensures c.as_slice.ensures c.requires.dim).low

pub bounds-weights-number : goal.bounds-weights-number
bounds-weights-number c =
    (table-at c.args.model.now.space c.space.result.now c.args.cube c.args.dim c.shape.result.now c.as_slice.result.now c.weights.result.now c.space.ensures.space c.space.ensures.valid c.shape.ensures c.as_slice.ensures c.requires.dim c.weights.ensures).low

pub returns : goal.returns
returns c =
    (table-at c.args.model.now.space c.space.result.now c.args.cube c.args.dim c.shape.result.now c.as_slice.result.now c.weights.result.now c.space.ensures.space c.space.ensures.valid c.shape.ensures c.as_slice.ensures c.requires.dim c.weights.ensures).of c.index-weights-number.result c.index-weights-number.is
