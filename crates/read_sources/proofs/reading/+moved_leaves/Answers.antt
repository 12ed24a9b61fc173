use Rattle.std.proofs.Common.{◌∙◌, sym, arith, ◌<◌, length}
use Rattle.ref_order.proofs.Args.{args-long, target-below, arg-low}
use Rattle.read_sources.proofs.reading.+moved_leaves.Goals as goal

pub is_total-requires-clause-dim : goal.is_total-requires-clause-dim
is_total-requires-clause-dim t c =
    let long = args-long c.args.model.now.space c.args.cube c.args.reference.now c.requires.reference in
    let low : c.args.from < length c.args.reference.now.args = arg-low c.args.from c.as_slice-args.result.now c.args.reference.now.args c.as_slice-args.ensures c.if-from-args.false c.requires.from in
    omega (arith, long, low)

pub is_total-requires-clause-element : goal.is_total-requires-clause-element
is_total-requires-clause-element t c =
    target-below c.args.model.now.space c.args.cube c.args.reference.now c.as_slice-args.result.now c.args.from c.args.element c.in-Some.named c.in-Moved.followed c.in-Moved.to c.index-args-from.result c.requires.reference c.as_slice-args.ensures
    (arg-low c.args.from c.as_slice-args.result.now c.args.reference.now.args c.as_slice-args.ensures c.if-from-args.false c.requires.from) c.index-args-from.is c.in-Moved.is (sym c.in-Some.is ∙ c.get.ensures)
