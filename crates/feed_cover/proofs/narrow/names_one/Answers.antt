use Rattle.std.proofs.Common.{◌∙◌, sym, arith}
use Rattle.ref_order.proofs.Args.{args-long, target-below}
use Rattle.feed_cover.proofs.narrow.names_one.Goals as goal

pub counts-requires-clause-place : goal.counts-requires-clause-place
counts-requires-clause-place c = omega (arith, args-long c.args.model.now.space c.args.view.cube c.args.view.reference.now c.requires.view.reference, c.requires.place)

pub counts-requires-clause-element : goal.counts-requires-clause-element
counts-requires-clause-element c =
    target-below c.args.model.now.space c.args.view.cube c.args.view.reference.now c.as_slice.result.now c.args.place c.args.element c.in-Some.target c.in-Moved.from c.in-Moved.to c.index-as_slice-place.result c.requires.view.reference c.as_slice.ensures
    c.requires.place c.index-as_slice-place.is c.in-Moved.is (sym c.in-Some.is ∙ c.get.ensures)
