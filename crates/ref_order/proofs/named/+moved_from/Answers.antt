use Rattle.std.proofs.Common.{◌∙◌, sym, subst, arith, ℕ, ◌+◌, ◌-◌, ◌*◌, ◌<◌, length}
use Rattle.std.specs.Prelude.{slice_index_or}
use Rattle.cube_space.specs.Layout.{sizes}
use Rattle.ref_order.proofs.Args.{args-fit, target-below, arg-low, size-weaker}
use Rattle.ref_order.proofs.named.+moved_from.Goals as goal

pub with_named-requires-clause-dim : goal.with_named-requires-clause-dim
with_named-requires-clause-dim t c =
    let long = args-fit c.args.target.model.now.space c.args.source.cube c.args.target.cube c.args.reference.now c.requires.reference c.requires.cube in
    let low : c.args.from < length c.args.reference.now.args = arg-low c.args.from c.as_slice-args.result.now c.args.reference.now.args c.as_slice-args.ensures c.if-from-args.false c.requires.from in
    omega (arith, long, low)

pub with_named-requires-clause-element : goal.with_named-requires-clause-element
with_named-requires-clause-element t c =
    subst (λ (k : ℕ). c.in-Some.named < slice_index_or (sizes c.args.target.model.now.space k) c.args.from 0) (sym c.requires.cube)
    (target-below c.args.target.model.now.space c.args.source.cube c.args.reference.now c.as_slice-args.result.now c.args.from c.args.source.element c.in-Some.named c.in-Moved.followed c.in-Moved.to c.index-args-from.result c.requires.reference c.as_slice-args.ensures
    (arg-low c.args.from c.as_slice-args.result.now c.args.reference.now.args c.as_slice-args.ensures c.if-from-args.false c.requires.from) c.index-args-from.is c.in-Moved.is (sym c.in-Some.is ∙ c.get.ensures))

pub returns-in-Some-clause-size : goal.returns-in-Some-clause-size
returns-in-Some-clause-size t c =
    let low : c.args.from < length c.args.reference.now.args = arg-low c.args.from c.as_slice-args.result.now c.args.reference.now.args c.as_slice-args.ensures c.if-from-args.false c.requires.from in
    let rest = (length c.args.reference.now.args - (c.args.from + 1)) * 4294967296 in
    size-weaker c.with_named.result.sum (4294967296 + rest) ((length c.args.reference.now.args - c.args.from) * 4294967296) (c.with_named.ensures.size rest c.moved_from-rest.ensures.size) (omega (arith, low))
