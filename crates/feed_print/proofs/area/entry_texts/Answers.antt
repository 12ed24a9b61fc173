use Rattle.std.proofs.Common.{◌≡◌, ◌∙◌, ◌++◌, ◌<◌, length, Some, option_map, sym, ap, arith, true}
use Rattle.std.proofs.lemmas.List.{length-map}
use Rattle.lists.proofs.Found.{none_found, there}
use Rattle.dim_core.specs.Outline.{Outline}
use Rattle.cube_space.specs.Layout.{axes, sizes}
use Rattle.rule_model.specs.Conditions.{IsSet}
use Rattle.rule_printer.specs.Writable.{is_writable_entry}
use Rattle.feed_print.proofs.Lists.{as_long, entry_gap, entry_more, entry_none, item_there, listed_known, more_pass, some_has}
use Rattle.feed_print.proofs.area.entry_texts.Goals as goal

pub bounds-sets-place : goal.bounds-sets-place
bounds-sets-place c =
    let long = as_long IsSet (sizes c.args.space.now c.args.cube) c.args.area.now.sets c.requires.area in
    let sized = length-map (axes c.args.space.now c.args.cube) (λ (d : Outline). length d.elements) in
    let same = ap length c.as_slice-sets.ensures in
    omega (arith, c.each-test.true, c.axis_count-place-end.ensures.value, long, sized, same)

pub each-preserved-in_default : goal.each-preserved-in_default
each-preserved-in_default c =
    let ds = axes c.args.space.now c.args.cube in
    let sets = c.args.area.now.sets in
    let low : c.each.place < length sets = (let long = as_long IsSet (sizes c.args.space.now c.args.cube) sets c.requires.area in let sized = length-map ds (λ (d : Outline). length d.elements) in omega (arith, c.each-test.true, c.axis_count-place-end.ensures.value, long, sized)) in
    let inside : c.each.place < length ds = omega (arith, c.each-test.true, c.axis_count-place-end.ensures.value) in
    let (d, at) = there ds c.each.place inside in
    let is = item_there c.as_slice-sets.result.now sets c.each.place c.index-sets-place.result c.as_slice-sets.ensures low c.index-sets-place.is ∙ ap Some (none_found c.index-sets-place.result c.in_default.not-Some) in
    record {
      text = ap (option_map (λ more. c.each.entries.items ++ more)) (sym (entry_none ds sets c.each.place d at is)) ∙ c.each.invariant.text;
      writable = c.each.invariant.writable;
    }

pub entry_text-requires : goal.entry_text-requires
entry_text-requires c =
    let ds = axes c.args.space.now c.args.cube in
    let sets = c.args.area.now.sets in
    let low : c.each.place < length sets = (let long = as_long IsSet (sizes c.args.space.now c.args.cube) sets c.requires.area in let sized = length-map ds (λ (d : Outline). length d.elements) in omega (arith, c.each-test.true, c.axis_count-place-end.ensures.value, long, sized)) in
    let is = item_there c.as_slice-sets.result.now sets c.each.place c.index-sets-place.result c.as_slice-sets.ensures low c.index-sets-place.is ∙ ap Some (c.in-Some.is ∙ ap Some (sym c.as_slice.ensures)) in
    listed_known ds sets c.each.place c.axis.result.now c.as_slice.result.now c.requires.area c.axis.ensures is

pub returns-in-None-clause-text : goal.returns-in-None-clause-text
returns-in-None-clause-text c =
    let ds = axes c.args.space.now c.args.cube in
    let sets = c.args.area.now.sets in
    let low : c.each.place < length sets = (let long = as_long IsSet (sizes c.args.space.now c.args.cube) sets c.requires.area in let sized = length-map ds (λ (d : Outline). length d.elements) in omega (arith, c.each-test.true, c.axis_count-place-end.ensures.value, long, sized)) in
    let is = item_there c.as_slice-sets.result.now sets c.each.place c.index-sets-place.result c.as_slice-sets.ensures low c.index-sets-place.is ∙ ap Some (c.in-Some.is ∙ ap Some (sym c.as_slice.ensures)) in
    sym (sym c.each.invariant.text
    ∙ entry_gap ds sets c.each.place c.axis.result.now c.axis.ensures c.as_slice.result.now c.each.entries.items is (sym c.in_ok-entry.ensures.text ∙ c.in-None.is))

pub each-preserved : goal.each-preserved
each-preserved c =
    let ds = axes c.args.space.now c.args.cube in
    let sets = c.args.area.now.sets in
    let low : c.each.place < length sets = (let long = as_long IsSet (sizes c.args.space.now c.args.cube) sets c.requires.area in let sized = length-map ds (λ (d : Outline). length d.elements) in omega (arith, c.each-test.true, c.axis_count-place-end.ensures.value, long, sized)) in
    let is = item_there c.as_slice-sets.result.now sets c.each.place c.index-sets-place.result c.as_slice-sets.ensures low c.index-sets-place.is ∙ ap Some (c.in-Some.is ∙ ap Some (sym c.as_slice.ensures)) in
    record {
      text = sym (entry_more ds sets c.each.place c.axis.result.now c.axis.ensures c.as_slice.result.now c.in-Some-2.entry c.each.entries.items c.push.new.self.items is (sym c.in_ok-entry.ensures.text ∙ c.in-Some-2.is) c.in_ok-push-in-Some-2.ensures.items)
          ∙ c.each.invariant.text;
      writable = more_pass is_writable_entry c.each.entries.items c.push.new.self.items c.in-Some-2.entry c.in_ok-push-in-Some-2.ensures.items c.each.invariant.writable
          (some_has (λ entry. is_writable_entry entry ≡ true) c.in_ok-entry.field-0 c.in-Some-2.entry c.in-Some-2.is c.in_ok-entry.ensures.writable);
    }
