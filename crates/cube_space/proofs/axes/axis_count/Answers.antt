use Rattle.std.proofs.Common.{◌∙◌, length, sym, ap, arith}
use Rattle.cube_space.proofs.AxisFacts.{axes_count, dims_few}
use Rattle.cube_space.proofs.axes.axis_count.Goals as goal

pub returns-clause-value : goal.returns-clause-value
returns-clause-value c =
    ap length c.as_slice.ensures ∙ sym (axes_count c.args.space.now c.args.cube c.shape.result.now c.size-cells.ensures.valid c.shape.ensures)

pub returns-clause-few : goal.returns-clause-few
returns-clause-few c =
    let few = dims_few c.args.space.now c.args.cube c.shape.result.now c.size-cells.ensures.valid c.shape.ensures in
    omega (arith, few, ap length c.as_slice.ensures)
