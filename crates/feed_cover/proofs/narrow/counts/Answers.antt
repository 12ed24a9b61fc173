use Rattle.std.proofs.Common.{◌<◌, ◌∙◌, sym, ap, subst, arith, length}
use Rattle.std.specs.Prelude.{slice_index_or}
use Rattle.cube_space.specs.Layout.{sizes}
use Rattle.rule_model.specs.Areas.{in_set}
use Rattle.rule_model.specs.Conditions.{IsArea, IsSet}
use Rattle.order_laws.proofs.SetFacts.{set-at}
use Rattle.ref_order.proofs.Sums.{sets-long, set-found}
use Rattle.feed_cover.specs.Views.{IsCounted, counts_of}
use Rattle.feed_cover.proofs.narrow.counts.Goals as goal

pub offset_bounds-as_slice-place : goal.offset_bounds-as_slice-place
offset_bounds-as_slice-place c =
    let is : IsArea c.args.model.now.space c.args.view.reference.now.cube c.in-Within.area.now = subst (IsCounted c.args.model.now c.args.view.reference.now.cube) c.in-Within.is c.requires.view.counted in
    let low : c.args.place < length c.as_slice.result.now = omega (arith, sets-long c.args.model.now.space c.args.view.reference.now.cube c.in-Within.area.now is, c.requires.place, ap length c.as_slice.ensures) in
    omega (arith, low, c.as_slice.type_inv)

pub bounds-as_slice-place : goal.bounds-as_slice-place
bounds-as_slice-place c =
    let is : IsArea c.args.model.now.space c.args.view.reference.now.cube c.in-Within.area.now = subst (IsCounted c.args.model.now c.args.view.reference.now.cube) c.in-Within.is c.requires.view.counted in
    omega (arith, sets-long c.args.model.now.space c.args.view.reference.now.cube c.in-Within.area.now is, c.requires.place, ap length c.as_slice.ensures)

pub is_listed-requires : goal.is_listed-requires
is_listed-requires c =
    let is : IsArea c.args.model.now.space c.args.view.reference.now.cube c.in-Within.area.now = subst (IsCounted c.args.model.now c.args.view.reference.now.cube) c.in-Within.is c.requires.view.counted in
    let low : c.args.place < length c.in-Within.area.now.sets = omega (arith, sets-long c.args.model.now.space c.args.view.reference.now.cube c.in-Within.area.now is, c.requires.place) in
    let set = set-found c.as_slice.result.now c.in-Within.area.now.sets c.args.place c.index-as_slice-place.result c.as_slice.ensures low c.index-as_slice-place.is in
    let size = c.len-size.ensures.len ∙ sym c.axis.ensures.size in
    subst (λ n. IsSet n c.index-as_slice-place.result) (sym size) (subst (IsSet (slice_index_or (sizes c.args.model.now.space c.args.view.reference.now.cube) c.args.place 0)) (sym set)
    (set-at (sizes c.args.model.now.space c.args.view.reference.now.cube) c.in-Within.area.now.sets c.args.place is))

pub returns-in-Within : goal.returns-in-Within
returns-in-Within c =
    let is : IsArea c.args.model.now.space c.args.view.reference.now.cube c.in-Within.area.now = subst (IsCounted c.args.model.now c.args.view.reference.now.cube) c.in-Within.is c.requires.view.counted in
    let low : c.args.place < length c.in-Within.area.now.sets = omega (arith, sets-long c.args.model.now.space c.args.view.reference.now.cube c.in-Within.area.now is, c.requires.place) in
    let set = set-found c.as_slice.result.now c.in-Within.area.now.sets c.args.place c.index-as_slice-place.result c.as_slice.ensures low c.index-as_slice-place.is in
    c.is_listed.ensures ∙ ap (λ s. in_set s c.args.element) set ∙ ap (λ k. counts_of k c.args.model.now c.args.view.reference.now.cube c.args.place c.args.element) (sym c.in-Within.is)
