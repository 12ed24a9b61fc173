use Rattle.std.proofs.Common.{◌≡◌, ◌∙◌, sym, ap, subst, arith, ◌<◌, inl, inr, length, get_or, pos, [], Some, ℕ, true, false}
use Rattle.std.specs.Prelude.{slice_get}
use Rattle.std.proofs.lemmas.Option.{slice_get-get_or}
use Rattle.dim_core.specs.Outline.{IsElement}
use Rattle.dim_weights.specs.Coefficients.{coef}
use Rattle.dim_weights.specs.Table.{is_nonzero}
use Rattle.cube_space.specs.Layout.{axes}
use Rattle.cube_space.specs.Cells.{elements_of, cube_of}
use Rattle.cube_space.proofs.Places.{cell-place}
use Rattle.rule_model.specs.Targets.{element_by}
use Rattle.model_laws.proofs.Levels.{element-of}
use Rattle.feed_sources.proofs.SourceFacts.{weights-there}
use Rattle.feed_sources.proofs.ChoiceFacts.{IsAxis, argument-axis, elements-long, fixed-low, read-element}
use Rattle.feed_sources.proofs.KeptFacts.{argument-names, target-parts, below-cube, below-counts}
use Rattle.feed_sources.proofs.misses.misses.Goals.{After-as_slice-args}
use Rattle.feed_sources.proofs.misses.misses.Goals as goal

pub returns-then-reference-into : goal.returns-then-reference-into
returns-then-reference-into c = λ _ x stands.
    let m = c.args.model.now in
    let parts = target-parts m.space c.args.reference.now x stands.0 stands.1 in
    let same = below-cube m c.space-space.ensures.valid stands.0 c.args.cell parts.2.cell stands.2 in
    c.if-reference-into.true (sym parts.2.own ∙ sym same ∙ sym c.place_of-into.ensures.cube)

found : (c : After-as_slice-args) → slice_get c.args.model.now.space.cubes c.place_of-into.result.0 ≡ Some c.shape.result.now
found c = rw c.space-space.ensures.space at c.shape.ensures

-- the dimension that an argument is for
axis : (c : After-as_slice-args) (place : ℕ) → place < length c.as_slice-args.result.now → IsAxis c.args.model.now c.place_of-into.result.0 c.as_slice-dims.result.now place
axis c place low =
    argument-axis c.args.model.now c.space-space.ensures.valid c.args.cube c.place_of-into.result.0 c.args.reference.now c.shape.result.now c.as_slice-dims.result.now c.as_slice-args.result.now place
    c.requires.reference c.if-reference-into.false (found c) c.as_slice-dims.ensures c.as_slice-args.ensures low

pub bounds-dims-place : goal.bounds-dims-place
bounds-dims-place c = (axis (goal.at.bounds-dims-place c).After-as_slice-args c.each.place c.each-test.true).low

pub bounds-at-place : goal.bounds-at-place
bounds-at-place c = (axis (goal.at.bounds-at-place c).After-as_slice-args c.each.place c.each-test.true).few

pub bounds-weights-dims : goal.bounds-weights-dims
bounds-weights-dims c =
    let d = axis (goal.at.bounds-weights-dims c).After-as_slice-args c.each.place c.each-test.true in
    (weights-there c.args.model.now.space.dimensions c.weights.result.now (get_or c.as_slice-dims.result.now c.each.place 0) d.d [] (rw c.model.ensures at c.weights.ensures) d.own).0

pub is_other-requires : goal.is_other-requires
is_other-requires c = λ element fixed.
    let d = axis (goal.at.is_other-requires c).After-as_slice-args c.each.place c.each-test.true in
    let table = (weights-there c.args.model.now.space.dimensions c.weights.result.now (get_or c.as_slice-dims.result.now c.each.place 0) d.d c.index-weights-dims.result (rw c.model.ensures at c.weights.ensures) d.own).1 c.index-weights-dims.is in
    let arg_is : slice_get c.args.reference.now.args c.each.place ≡ Some c.index-args-place.result =
    ap (λ args. slice_get args c.each.place) (sym c.as_slice-args.ensures) ∙ slice_get-get_or c.as_slice-args.result.now c.each.place c.index-args-place.result c.each-test.true ∙ ap Some (sym c.index-args-place.is) in
    let low = fixed-low c.args.model.now c.space-space.ensures.valid c.args.cube c.place_of-into.result.0 c.args.reference.now c.each.place element c.index-args-place.result d.d c.requires.reference c.if-reference-into.false arg_is fixed d.axis in
    omega (arith, low, table.whole)

pub returns-then-is_other : goal.returns-then-is_other
returns-then-is_other c = λ _ x stands.
    let a = (goal.at.returns-then-is_other c).After-as_slice-args in
    let m = c.args.model.now in
    let place = c.each.place in
    let cell = c.args.cell in
    let t = stands.0 in
    let d = axis a place c.each-test.true in
    let table = (weights-there m.space.dimensions c.weights.result.now (get_or c.as_slice-dims.result.now place 0) d.d c.index-weights-dims.result (rw c.model.ensures at c.weights.ensures) d.own).1 c.index-weights-dims.is in
    let arg_is : slice_get c.args.reference.now.args place ≡ Some c.index-args-place.result =
    ap (λ args. slice_get args place) (sym c.as_slice-args.ensures) ∙ slice_get-get_or c.as_slice-args.result.now place c.index-args-place.result c.each-test.true ∙ ap Some (sym c.index-args-place.is) in
    let other = c.is_other.ensures c.if-is_other.true in
    let element = other.0 in
    let parts = target-parts m.space c.args.reference.now x t stands.1 in
    let names : Some element ≡ Some (get_or parts.0 place 0) = ap (element_by (elements_of m.space x)) (sym other.1) ∙ argument-names (elements_of m.space x) c.args.reference.now.args parts.0 place c.index-args-place.result parts.1 arg_is in
    let fixed : element ≡ get_or parts.0 place 0 = cc in
    let its : get_or (elements_of m.space t) place 0 ≡ element = ap (λ es. get_or es place 0) parts.2.its ∙ sym fixed in
    let many : place < length (elements_of m.space cell) =
    (let all = elements-long m c.space-space.ensures.valid cell c.place_of-into.result.0 c.shape.result.now c.requires.cell c.place_of-into.ensures.cube (found a) in omega (arith, d.low, all, ap length c.as_slice-dims.ensures)) in
    let leaf : get_or (elements_of m.space cell) place 0 ≡ get_or c.place_of-into.new.at place 0 = read-element c.place_of-into.result.1 c.place_of-into.new.at (elements_of m.space cell) place c.place_of-into.ensures.elements many in
    let axis_t : slice_get (axes m.space (cube_of m.space t)) place ≡ Some d.d = ap (λ k. slice_get (axes m.space k) place) (parts.2.own ∙ c.if-reference-into.false) ∙ d.axis in
    let axis_c : slice_get (axes m.space (cube_of m.space cell)) place ≡ Some d.d = ap (λ k. slice_get (axes m.space k) place) (sym c.place_of-into.ensures.cube) ∙ d.axis in
    let here : IsElement d.d (get_or c.place_of-into.new.at place 0) = subst (IsElement d.d) leaf (element-of (axes m.space (cube_of m.space cell)) (elements_of m.space cell) place d.d (cell-place m.space cell c.requires.cell).place.digits axis_c).1 in
    elim (below-counts m c.space-space.ensures.valid t cell parts.2.cell stands.2 place d.d axis_t) [
      | inl equal ↦ other.2 (sym its ∙ equal ∙ leaf)
      | inr on ↦ (let zero : coef d.d element (get_or c.place_of-into.new.at place 0) ≡ pos 0 = other.3 d.d table here in
          let one : is_nonzero (coef d.d element (get_or c.place_of-into.new.at place 0)) ≡ true =
          subst (λ n. is_nonzero (coef d.d element n) ≡ true) leaf (subst (λ n. is_nonzero (coef d.d n (get_or (elements_of m.space cell) place 0)) ≡ true) its on) in
          let clash : false ≡ true = ap is_nonzero (sym zero) ∙ one in cc)
    ]
