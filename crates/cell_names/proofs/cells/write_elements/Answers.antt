use Rattle.std.proofs.Common.{◌++◌, ◌∙◌, ◌<◌, ◌≤◌, length, take, get_or, sym, ap, arith}
use Rattle.std.proofs.lemmas.List.{append_assoc, take_all}
use Rattle.std.proofs.lemmas.Option.{get_or_from_slice_get}
use Rattle.cube_space.specs.Layout.{axes}
use Rattle.dim_core.specs.Outline.{Outline, name_of}
use Rattle.cell_names.specs.Inside.Names.{lead, quoted_names}
use Rattle.cell_names.specs.CellNames.{listed, quoted_name}
use Rattle.cell_names.proofs.NameFacts.{elements_count, element_below, names_next}
use Rattle.cell_names.proofs.cells.write_elements.Goals as goal

pub bounds-elements-place : goal.bounds-elements-place
bounds-elements-place c =
    omega (arith, elements_count c.args.space.now c.args.cube c.args.elements.now c.requires, c.axis_count-place-end.ensures.value, c.loop-place-test.true)

pub name_of-requires : goal.name_of-requires
name_of-requires c =
    element_below c.args.space.now c.args.cube c.args.elements.now c.requires c.loop-place.place c.axis-dimension.result.now
    (omega (arith, c.axis_count-place-end.ensures.value, c.loop-place-test.true)) c.axis-dimension.ensures

pub loop-place-preserved : goal.loop-place-preserved
loop-place-preserved c =
    let D = axes c.args.space.now c.args.cube in
    let E = c.args.elements.now in
    let i = c.loop-place.place in
    let d = c.axis-dimension.result.now in
    let before = listed (quoted_names (take i D) (take i E)) in
    let low : i < length D = omega (arith, c.axis_count-place-end.ensures.value, c.loop-place-test.true) in
    let there : i < length E = omega (arith, low, elements_count c.args.space.now c.args.cube E c.requires) in
    let name = quoted_name (name_of d (get_or E i 0)) in
    let own = c.shown.ensures.value ∙ c.name_of.ensures in
    c.in_ok-write_quoted_name.ensures
    ∙ ap (λ n. c.write_lead.new.out.items ++ quoted_name n) own
    ∙ ap (λ l. l ++ name) (c.in_ok-write_lead.ensures ∙ ap (λ l. l ++ lead i) c.loop-place.invariant ∙ append_assoc c.args.out.now.items before (lead i))
    ∙ append_assoc c.args.out.now.items (before ++ lead i) name
    ∙ ap (λ l. c.args.out.now.items ++ l) (append_assoc before (lead i) name
    ∙ ap (λ (x : Outline). before ++ (lead i ++ quoted_name (name_of x (get_or E i 0)))) (sym (get_or_from_slice_get D i d d c.axis-dimension.ensures))
    ∙ sym (names_next D E i d 0 low there))

pub returns : goal.returns
returns c =
    let D = axes c.args.space.now c.args.cube in
    let E = c.args.elements.now in
    let i = c.loop-place.place in
    let past : length D ≤ i = omega (arith, c.axis_count-place-end.ensures.value, c.loop-place-test.false) in
    let over : length E ≤ i = omega (arith, past, elements_count c.args.space.now c.args.cube E c.requires) in
    c.loop-place.invariant
    ∙ ap (λ l. c.args.out.now.items ++ listed (quoted_names l (take i E))) (take_all i D past)
    ∙ ap (λ l. c.args.out.now.items ++ listed (quoted_names D l)) (take_all i E over)
