use Rattle.std.proofs.Common.{◌<◌, ap, arith, length}
use Rattle.feed_turn.proofs.Places.{arg-found}
use Rattle.feed_find.proofs.Sameness.{arg-from}
use Rattle.feed_find.proofs.same.same_reference.Goals as goal

pub same_arg-requires-clause-one : goal.same_arg-requires-clause-one
same_arg-requires-clause-one c =
    let low : c.each.place < length c.args.one.now.args = omega (arith, c.each-test.true, ap length c.as_slice-args.ensures) in
    arg-from c.args.space.now c.args.cube c.args.one.now c.each.place c.index-args-place.result c.requires.one
    (arg-found c.as_slice-args.result.now c.args.one.now.args c.each.place c.index-args-place.result c.as_slice-args.ensures low c.index-args-place.is)

pub same_arg-requires-clause-other : goal.same_arg-requires-clause-other
same_arg-requires-clause-other c =
    let low : c.each.place < length c.args.other.now.args = omega (arith, c.each-test.true, c.if-args-its.false, ap length c.as_slice-its.ensures) in
    arg-from c.args.space.now c.args.cube c.args.other.now c.each.place c.index-its-place.result c.requires.other
    (arg-found c.as_slice-its.result.now c.args.other.now.args c.each.place c.index-its-place.result c.as_slice-its.ensures low c.index-its-place.is)
