use Rattle.std.proofs.Common.{rules, ◌≡◌, ◌∙◌, ◌<◌, sym, ap, arith, length, true, not, None}
use Rattle.std.specs.Prelude.{slice_index_or}
use Rattle.cube_space.specs.Layout.{axes}
use Rattle.rule_laws.specs.declared.reference.Arg.TheVariants.{Fixed}
use Rattle.ref_order.proofs.Args.{args-long}
use Rattle.ref_order.proofs.Sums.{sets-long, set-found}
use Rattle.cover_laws.specs.Covered.{are_sources}
use Rattle.feed_cover.specs.Views.{look_of}
use Rattle.feed_cover.proofs.Sources.{all-sources, no-list}
use Rattle.feed_cover.proofs.Kept.{all-named}
use Rattle.feed_cover.proofs.Ways.{some-arg}
use Rattle.feed_cover.proofs.Answered.{source-answer, found-right, kept-right}
use Rattle.feed_cover.proofs.named.names_sources.Goals as goal

pub offset_bounds-as_slice-place : goal.offset_bounds-as_slice-place
offset_bounds-as_slice-place c =
    let low : c.args.place < length c.as_slice.result.now = omega (arith, sets-long c.args.model.now.space c.args.view.reference.now.cube c.args.area.now c.requires.area, args-long c.args.model.now.space c.args.view.cube c.args.view.reference.now c.requires.view.reference, c.requires.place, ap length c.as_slice.ensures) in
    omega (arith, low, c.as_slice.type_inv)

pub bounds-as_slice-place : goal.bounds-as_slice-place
bounds-as_slice-place c =
    omega (arith, sets-long c.args.model.now.space c.args.view.reference.now.cube c.args.area.now c.requires.area, args-long c.args.model.now.space c.args.view.cube c.args.view.reference.now c.requires.view.reference, c.requires.place, ap length c.as_slice.ensures)

pub returns-then-is_none-clause-sources : goal.returns-then-is_none-clause-sources
returns-then-is_none-clause-sources c =
    let ds = axes c.args.model.now.space c.args.view.reference.now.cube in
    let low : c.args.place < length c.args.area.now.sets = omega (arith, sets-long c.args.model.now.space c.args.view.reference.now.cube c.args.area.now c.requires.area, args-long c.args.model.now.space c.args.view.cube c.args.view.reference.now c.requires.view.reference, c.requires.place) in
    let set = set-found c.as_slice.result.now c.args.area.now.sets c.args.place c.index-as_slice-place.result c.as_slice.ensures low c.index-as_slice-place.is in
    let on : c.is_none.result ≡ true = search rules in
    let none : c.index-as_slice-place.result ≡ None = no-list c.index-as_slice-place.result (c.is_none.ensures ∙ ap not on) in
    sym (all-named (look_of c.args.model.now c.args.view) c.requires.view.area (are_sources ds c.args.area.now.sets c.args.place)
    (slice_index_or c.args.view.reference.now.args c.args.place (Fixed 0))
    (λ e. sym (all-sources ds c.args.area.now.sets c.args.place e (sym set ∙ none))))

pub returns-in-Some-recalled-clause-sources : goal.returns-in-Some-recalled-clause-sources
returns-in-Some-recalled-clause-sources c =
    let args = c.args.view.reference.now.args in
    found-right c.args.model.now c.args.view.cube c.args.answers.now c.in-Some.asked c.in-Some-recalled.known c.requires.answers c.in-Some-recalled.ensures
    ∙ sym (source-answer c.args.model.now c.args.view c.args.area.now c.args.place c.in-Some.asked c.in-Some.ensures (some-arg args c.args.place (Fixed 0) c.requires.place))

pub returns-clause-answers : goal.returns-clause-answers
returns-clause-answers c =
    let args = c.args.view.reference.now.args in
    kept-right c.args.model.now c.args.view.cube c.args.answers.now c.keep.new.self (record { asked = c.in-Some.asked; is = c.are_named_sources-is.result }) c.requires.answers
    (c.are_named_sources-is.ensures ∙ source-answer c.args.model.now c.args.view c.args.area.now c.args.place c.in-Some.asked c.in-Some.ensures (some-arg args c.args.place (Fixed 0) c.requires.place))
    c.keep.ensures
