use Rattle.std.proofs.Common.{arith, ◌<◌, length}
use Rattle.rule_model.proofs.Filing.{dim_low, number_low, element_there, leaf_is}
use Rattle.rule_model.proofs.filed.is_leaf_at.Goals as goal

pub offset_bounds-dims-dim : goal.offset_bounds-dims-dim
offset_bounds-dims-dim c =
    let low : c.args.dim < length c.as_slice-dims.result.now = dim_low c.args.space.now c.args.cube c.args.dim c.args.element c.shape.result.now c.as_slice-dims.result.now c.size-cells.ensures.valid c.shape.ensures c.as_slice-dims.ensures c.requires.element in
    omega (arith, low, c.as_slice-dims.type_inv)

pub bounds-dims-dim : goal.bounds-dims-dim
bounds-dims-dim c = dim_low c.args.space.now c.args.cube c.args.dim c.args.element c.shape.result.now c.as_slice-dims.result.now c.size-cells.ensures.valid c.shape.ensures c.as_slice-dims.ensures c.requires.element

pub dimension-requires : goal.dimension-requires
dimension-requires c = number_low c.args.space.now c.args.cube c.args.dim c.args.element c.shape.result.now c.as_slice-dims.result.now c.size-cells.ensures.valid c.shape.ensures c.as_slice-dims.ensures c.requires.element

pub is_leaf-requires : goal.is_leaf-requires
is_leaf-requires c =
    element_there c.args.space.now c.args.cube c.args.dim c.args.element c.shape.result.now c.as_slice-dims.result.now c.size-cells.ensures.valid c.shape.ensures c.as_slice-dims.ensures c.requires.element c.dimension.result.now c.dimension.ensures

pub returns : goal.returns
returns c =
    leaf_is c.args.space.now c.args.cube c.args.dim c.args.element c.shape.result.now c.as_slice-dims.result.now c.size-cells.ensures.valid c.shape.ensures c.as_slice-dims.ensures c.requires.element c.dimension.result.now c.is_leaf.result
    c.dimension.ensures c.is_leaf.ensures
