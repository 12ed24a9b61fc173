use Rattle.std.proofs.Common.{◌<◌, ◌∙◌, ap, arith, length}
use Rattle.std.specs.Prelude.{slice_index_or}
use Rattle.std.proofs.lemmas.List.{get_or_default}
use Rattle.rule_laws.specs.declared.reference.Arg.TheVariants.{Fixed}
use Rattle.ref_order.proofs.Args.{args-long}
use Rattle.read_sources.proofs.ways.last_argument.Goals as goal

pub bounds-as_slice-last : goal.bounds-as_slice-last
bounds-as_slice-last c = omega (arith, args-long c.args.model.now.space c.args.cube c.args.reference.now c.requires, c.last_of-last.ensures.within, ap length c.as_slice.ensures)

pub offset_bounds-as_slice-last : goal.offset_bounds-as_slice-last
offset_bounds-as_slice-last c =
    let low : c.last_of-last.result < length c.as_slice.result.now = omega (arith, args-long c.args.model.now.space c.args.cube c.args.reference.now c.requires, c.last_of-last.ensures.within, ap length c.as_slice.ensures) in
    omega (arith, low, c.as_slice.type_inv)

pub returns : goal.returns
returns c =
    let low : c.last_of-last.result < length c.args.reference.now.args = omega (arith, args-long c.args.model.now.space c.args.cube c.args.reference.now c.requires, c.last_of-last.ensures.within) in
    c.index-as_slice-last.is ∙ ap (λ xs. slice_index_or xs c.last_of-last.result c.index-as_slice-last.result) c.as_slice.ensures
    ∙ get_or_default c.args.reference.now.args c.last_of-last.result c.index-as_slice-last.result (Fixed 0) low
    ∙ ap (λ i. slice_index_or c.args.reference.now.args i (Fixed 0)) c.last_of-last.ensures.last
