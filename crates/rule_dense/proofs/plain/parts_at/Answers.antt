use Rattle.rule_dense.proofs.Places.{parts-past, element-there, parts-here}
use Rattle.rule_dense.proofs.plain.parts_at.Goals as goal

pub returns-then-dim-dims-clause-parts : goal.returns-then-dim-dims-clause-parts
returns-then-dim-dims-clause-parts c =
    let is = c.place_of.ensures in
    parts-past c.args.space.now c.args.cell c.args.dim c.place_of.result.1.now c.place_of.new.at is.dims is.digits is.axes is.elements c.if-dim-dims.true

pub parts_of-requires : goal.parts_of-requires
parts_of-requires c =
    let is = c.place_of.ensures in
    element-there c.args.space.now c.args.cell c.args.dim c.place_of.result.1.now c.place_of.new.at is.dims is.digits is.axes is.elements c.dimension.result.now c.if-dim-dims.false c.dimension.ensures

pub returns-clause-parts : goal.returns-clause-parts
returns-clause-parts c =
    let is = c.place_of.ensures in
    parts-here c.args.space.now c.args.cell c.args.dim c.place_of.result.1.now c.place_of.new.at is.dims is.digits is.axes is.elements c.dimension.result.now c.if-dim-dims.false c.dimension.ensures c.parts_of.result.now c.parts_of.ensures.parts
