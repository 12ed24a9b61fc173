use Rattle.cube_space.proofs.AxisFacts.{place_within, number_within, number_is}
use Rattle.cube_space.proofs.axes.axis_number.Goals as goal

pub bounds-as_slice-place : goal.bounds-as_slice-place
bounds-as_slice-place c =
    place_within c.args.space.now c.args.cube c.shape.result.now c.size-cells.ensures.valid c.shape.ensures c.as_slice.result.now c.args.place c.as_slice.ensures c.requires.place

pub returns-clause-own : goal.returns-clause-own
returns-clause-own c =
    number_is c.args.space.now c.args.cube c.shape.result.now c.size-cells.ensures.valid c.shape.ensures c.as_slice.result.now c.args.place c.as_slice.ensures c.requires.place

pub returns-clause-within : goal.returns-clause-within
returns-clause-within c =
    number_within c.args.space.now c.args.cube c.shape.result.now c.size-cells.ensures.valid c.shape.ensures c.as_slice.result.now c.args.place c.as_slice.ensures c.requires.place
