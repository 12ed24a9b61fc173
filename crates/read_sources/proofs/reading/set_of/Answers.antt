use Rattle.std.proofs.Common.{◌<◌, arith, ap, length}
use Rattle.ref_order.proofs.Sums.{sets-long, set-found}
use Rattle.read_sources.proofs.reading.set_of.Goals as goal

pub offset_bounds-as_slice-dim : goal.offset_bounds-as_slice-dim
offset_bounds-as_slice-dim c =
    let low : c.args.dim < length c.as_slice.result.now = omega (arith, sets-long c.args.model.now.space c.args.source.cube c.args.source.area.now c.requires.source.area, c.requires.dim, ap length c.as_slice.ensures) in
    omega (arith, low, c.as_slice.type_inv)

pub bounds-as_slice-dim : goal.bounds-as_slice-dim
bounds-as_slice-dim c = omega (arith, sets-long c.args.model.now.space c.args.source.cube c.args.source.area.now c.requires.source.area, c.requires.dim, ap length c.as_slice.ensures)

pub returns : goal.returns
returns c =
    let low : c.args.dim < length c.args.source.area.now.sets = omega (arith, sets-long c.args.model.now.space c.args.source.cube c.args.source.area.now c.requires.source.area, c.requires.dim) in
    set-found c.as_slice.result.now c.args.source.area.now.sets c.args.dim c.index-as_slice-dim.result c.as_slice.ensures low c.index-as_slice-dim.is
