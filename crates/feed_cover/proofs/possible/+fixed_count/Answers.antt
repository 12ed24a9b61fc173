use Rattle.std.proofs.Common.{arith, ◌<◌, length}
use Rattle.ref_order.proofs.Args.{args-long, fixed-below, arg-low}
use Rattle.feed_cover.proofs.possible.+fixed_count.Goals as goal

pub counts-requires-clause-place : goal.counts-requires-clause-place
counts-requires-clause-place t c =
    let low : c.args.place < length c.args.view.reference.now.args = arg-low c.args.place c.as_slice-args.result.now c.args.view.reference.now.args c.as_slice-args.ensures c.if-place-args.false c.requires.place in
    omega (arith, args-long c.args.model.now.space c.args.view.cube c.args.view.reference.now c.requires.view.reference, low)

pub counts-requires-clause-element : goal.counts-requires-clause-element
counts-requires-clause-element t c =
    let low : c.args.place < length c.args.view.reference.now.args = arg-low c.args.place c.as_slice-args.result.now c.args.view.reference.now.args c.as_slice-args.ensures c.if-place-args.false c.requires.place in
    fixed-below c.args.model.now.space c.args.view.cube c.args.view.reference.now c.as_slice-args.result.now c.args.place c.in-Fixed.target c.index-args-place.result c.requires.view.reference c.as_slice-args.ensures low c.index-args-place.is c.in-Fixed.is
