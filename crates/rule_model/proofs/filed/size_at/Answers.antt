use Rattle.std.proofs.Common.{◌∙◌}
use Rattle.rule_model.proofs.Filing.{size_found, size_past, number_found}
use Rattle.rule_model.proofs.filed.size_at.Goals as goal

pub returns-then-place-dims : goal.returns-then-place-dims
returns-then-place-dims c = size_past c.args.space.now c.args.cube c.args.dim c.shape.result.now c.as_slice-dims.result.now c.size-cells.ensures.valid c.shape.ensures c.as_slice-dims.ensures c.if-place-dims.true

pub dimension-requires : goal.dimension-requires
dimension-requires c = number_found c.args.space.now c.args.cube c.args.dim c.shape.result.now c.as_slice-dims.result.now c.size-cells.ensures.valid c.shape.ensures c.as_slice-dims.ensures c.if-place-dims.false

pub returns : goal.returns
returns c =
    c.len.ensures.len ∙ size_found c.args.space.now c.args.cube c.args.dim c.shape.result.now c.as_slice-dims.result.now c.dimension.result.now c.size-cells.ensures.valid c.shape.ensures c.as_slice-dims.ensures c.if-place-dims.false c.dimension.ensures
