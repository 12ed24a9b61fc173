use Rattle.std.proofs.Common.{◌≡◌, ◌∙◌, sym, ap, subst, arith, ◌<◌, ◌≤◌, length, Some, get_or}
use Rattle.std.specs.Prelude.{slice_get}
use Rattle.std.proofs.lemmas.Option.{slice_get_within, slice_get-get_or}
use Rattle.cube_space.specs.Cells.{elements_of}
use Rattle.rule_model.proofs.Shapes.{dims_few}
use Rattle.feed_sources.specs.Inside.Choices.{AreChosen}
use Rattle.feed_sources.proofs.ChoiceFacts.{args-long, chosen-set, elements-long, kept-element, read-element}
use Rattle.feed_sources.proofs.choices.choose_kept.Goals.{After-as_slice-args}
use Rattle.feed_sources.proofs.choices.choose_kept.Goals.{in-Some, in_default}
use Rattle.feed_sources.proofs.choices.choose_kept.Goals as goal

found : (c : After-as_slice-args) → slice_get c.args.model.now.space.cubes c.args.cube ≡ Some c.shape.result.now
found c = rw c.space-space.ensures.space at c.shape.ensures

own-found : (c : After-as_slice-args) → slice_get c.args.model.now.space.cubes c.place_of-into.result.0 ≡ Some c.shape-2.result.now
own-found c = rw c.space-space.ensures.space at c.shape-2.ensures

-- one argument for each dimension
long : (c : After-as_slice-args) → length c.as_slice-args.result.now ≡ length c.as_slice-own.result.now
long c =
    ap length c.as_slice-args.ensures
    ∙ args-long c.args.model.now c.space-space.ensures.valid c.args.cube c.place_of-into.result.0 c.args.reference.now c.shape-2.result.now c.requires.reference c.if-reference-into.false (own-found c)
    ∙ ap length (sym c.as_slice-own.ensures)

own-few : (c : After-as_slice-args) → length c.as_slice-own.result.now ≤ 16
own-few c =
    let few = dims_few c.args.model.now.space c.place_of-into.result.0 c.shape-2.result.now c.space-space.ensures.valid (own-found c) in
    omega (arith, few, ap length c.as_slice-own.ensures)

few : (c : After-as_slice-args) → length c.as_slice-dims.result.now ≤ 16
few c =
    let few = dims_few c.args.model.now.space c.args.cube c.shape.result.now c.space-space.ensures.valid (found c) in
    omega (arith, few, ap length c.as_slice-dims.ensures)

pub bounds-own-place : goal.bounds-own-place
bounds-own-place c = omega (arith, c.each-test.true, long (goal.at.bounds-own-place c).After-as_slice-args)

pub bounds-at-place : goal.bounds-at-place
bounds-at-place c =
    let a = (goal.at.bounds-at-place c).After-as_slice-args in
    omega (arith, c.each-test.true, long a, own-few a)

pub bounds-choices-from : goal.bounds-choices-from
bounds-choices-from c =
    let a = (goal.at.bounds-choices-from c).After-as_slice-args in
    let low = slice_get_within c.as_slice-dims.result.now c.in-Some.from (get_or c.as_slice-own.result.now c.each.place 0) c.in-Some.ensures.place in
    omega (arith, low, few a)

pub each-preserved : goal.each-preserved
each-preserved c = λ x cell own leaf stands begun.
    let a = (goal.at.each-preserved c).After-as_slice-args in
    let m = c.args.model.now in
    let es = elements_of m.space x in
    let place = c.each.place in
    let into = c.place_of-into.result.0 in
    let dim = get_or c.as_slice-own.result.now place 0 in
    let before : AreChosen c.each.choices es = c.each.invariant x cell own leaf stands begun in
    let low : place < length c.as_slice-own.result.now = omega (arith, c.each-test.true, long a) in
    let place_is : slice_get c.shape-2.result.now.dims place ≡ Some dim = ap (λ ds. slice_get ds place) (sym c.as_slice-own.ensures) ∙ slice_get-get_or c.as_slice-own.result.now place 0 low in
    let arg_is : slice_get c.args.reference.now.args place ≡ Some c.index-args-place.result =
    ap (λ args. slice_get args place) (sym c.as_slice-args.ensures) ∙ slice_get-get_or c.as_slice-args.result.now place c.index-args-place.result c.each-test.true ∙ ap Some (sym c.index-args-place.is) in
    let many : place < length (elements_of m.space c.args.cell) =
    (let all = elements-long m c.space-space.ensures.valid c.args.cell into c.shape-2.result.now c.requires.cell c.place_of-into.ensures.cube (own-found a) in omega (arith, low, all, ap length c.as_slice-own.ensures)) in
    let after : AreChosen c.match-kept_from.choices es = elim c.match-kept_from.branch [
      | in-Some w ↦ (let from_is : slice_get c.shape.result.now.dims w.in-Some.from ≡ Some dim = ap (λ ds. slice_get ds w.in-Some.from) (sym c.as_slice-dims.ensures) ∙ w.in-Some.ensures.place in
          let from_low = slice_get_within c.shape.result.now.dims w.in-Some.from dim from_is in
          chosen-set c.each.choices c.match-kept_from.choices w.in-Some.from (get_or c.place_of-into.new.at place 0) es
          (omega (arith, from_low, few a, ap length c.as_slice-dims.ensures, c.match-kept_from.array_long)) w.choices-is before
          (λ within. kept-element m c.space-space.ensures.valid c.args.reference.now x c.args.cube into place w.in-Some.from dim c.args.cell c.index-args-place.result c.shape.result.now c.shape-2.result.now
          (found a) (own-found a) c.if-reference-into.false from_is place_is arg_is w.in-Some.ensures.kept own leaf stands
          ∙ read-element c.place_of-into.result.1 c.place_of-into.new.at (elements_of m.space c.args.cell) place c.place_of-into.ensures.elements many))
      | in_default w ↦ subst (λ cs. AreChosen cs es) (sym w.choices-is) before
    ] in
    after
