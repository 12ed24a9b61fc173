use Rattle.std.proofs.Common.{rules, ◌≡◌, ◌+◌, Some, [], ◌∙◌, sym, ap, subst, arith, ℕ, ◌&&◌, true, false, Bool, List, Option, None, length, drop, get_or}
use Rattle.std.specs.Prelude.{slice_get}
use Rattle.cube_space.specs.Layout.{axes_of}
use Rattle.dim_core.specs.Outline.{Outline}
use Rattle.rule_model.specs.Areas.{in_source_set, in_source_sets}
use Rattle.rule_model.specs.Conditions.{IsSet}
use Rattle.feed_sources.proofs.SourceFacts.{dimension-there, weights-there, above-there, set-at, element-at, sources-turn, sources-end, same-at}
use Rattle.feed_sources.proofs.source.in_source_sets.Goals.{After-weights, After-in_source_set}
use Rattle.feed_sources.proofs.source.in_source_sets.Goals as goal

-- the dimension at the place
axis : (c : After-weights) → (d : Outline) × (slice_get c.args.model.now.space.dimensions (get_or c.args.dims.now c.each.place 0) ≡ Some d)
axis c = dimension-there c.args.model.now.space.dimensions (get_or c.args.dims.now c.each.place 0) (c.requires.dims c.each.place 0 c.each-test.true)

pub bounds-weights-dims : goal.bounds-weights-dims
bounds-weights-dims c =
    let d = axis (goal.at.bounds-weights-dims c).After-weights in
    (weights-there c.args.model.now.space.dimensions c.weights.result.now (get_or c.args.dims.now c.each.place 0) d.0 [] (rw c.model.ensures at c.weights.ensures) d.1).0

pub bounds-above-dims : goal.bounds-above-dims
bounds-above-dims c =
    let d = axis (goal.at.bounds-above-dims c).After-weights in
    (above-there c.args.model.now.space.dimensions c.above.result.now (get_or c.args.dims.now c.each.place 0) d.0 [] c.above.ensures d.1).0

pub offset_bounds-sets-place : goal.offset_bounds-sets-place
offset_bounds-sets-place c = omega (arith, c.each-test.true, c.requires.few)

pub bounds-sets-place : goal.bounds-sets-place
bounds-sets-place c =
    let d = axis (goal.at.bounds-sets-place c).After-weights in
    (set-at c.args.model.now.space.dimensions c.args.dims.now c.args.sets.now c.each.place d.0 c.requires.dims c.requires.sets c.each-test.true d.1).0

pub bounds-elements-place : goal.bounds-elements-place
bounds-elements-place c =
    let d = axis (goal.at.bounds-elements-place c).After-weights in
    (element-at c.args.model.now.space.dimensions c.args.dims.now c.args.elements.now c.each.place d.0 c.requires.dims c.requires.digits c.each-test.true d.1).0

pub in_source_set-requires-clause-set : goal.in_source_set-requires-clause-set
in_source_set-requires-clause-set c =
    let d = axis (goal.at.in_source_set-requires-clause-set c).After-weights in
    let table = (weights-there c.args.model.now.space.dimensions c.weights.result.now (get_or c.args.dims.now c.each.place 0) d.0 c.index-weights-dims.result (rw c.model.ensures at c.weights.ensures) d.1).1 c.index-weights-dims.is in
    let set = set-at c.args.model.now.space.dimensions c.args.dims.now c.args.sets.now c.each.place d.0 c.requires.dims c.requires.sets c.each-test.true d.1 in
    let whole : length d.0.elements ≡ length c.index-weights-dims.result = sym table.whole in
    let same : get_or c.args.sets.now c.each.place None ≡ c.index-sets-place.result = same-at c.args.sets.now c.each.place None c.index-sets-place.result set.0 c.index-sets-place.is in
    subst (λ (n : ℕ). IsSet n c.index-sets-place.result) whole (subst (IsSet (length d.0.elements)) same set.1)

pub in_source_set-requires-clause-leaf : goal.in_source_set-requires-clause-leaf
in_source_set-requires-clause-leaf c =
    let d = axis (goal.at.in_source_set-requires-clause-leaf c).After-weights in
    let table = (weights-there c.args.model.now.space.dimensions c.weights.result.now (get_or c.args.dims.now c.each.place 0) d.0 c.index-weights-dims.result (rw c.model.ensures at c.weights.ensures) d.1).1 c.index-weights-dims.is in
    let element = element-at c.args.model.now.space.dimensions c.args.dims.now c.args.elements.now c.each.place d.0 c.requires.dims c.requires.digits c.each-test.true d.1 in
    omega (arith, element.1, table.whole)

pub in_source_set-requires-clause-above : goal.in_source_set-requires-clause-above
in_source_set-requires-clause-above c =
    let d = axis (goal.at.in_source_set-requires-clause-above c).After-weights in
    let table = (weights-there c.args.model.now.space.dimensions c.weights.result.now (get_or c.args.dims.now c.each.place 0) d.0 c.index-weights-dims.result (rw c.model.ensures at c.weights.ensures) d.1).1 c.index-weights-dims.is in
    let above = (above-there c.args.model.now.space.dimensions c.above.result.now (get_or c.args.dims.now c.each.place 0) d.0 c.index-above-dims.result c.above.ensures d.1).1 c.index-above-dims.is in
    omega (arith, table.whole, above.whole)

-- what the dimension at the place decides
turn : (c : After-in_source_set) → in_source_sets (axes_of c.args.model.now.space.dimensions (drop c.each.place c.args.dims.now)) (drop c.each.place c.args.sets.now) (drop c.each.place c.args.elements.now)
    ≡ (c.in_source_set.result && in_source_sets (axes_of c.args.model.now.space.dimensions (drop (c.each.place + 1) c.args.dims.now)) (drop (c.each.place + 1) c.args.sets.now) (drop (c.each.place + 1) c.args.elements.now))
turn c =
    let d = dimension-there c.args.model.now.space.dimensions (get_or c.args.dims.now c.each.place 0) (c.requires.dims c.each.place 0 c.each-test.true) in
    let table = (weights-there c.args.model.now.space.dimensions c.weights.result.now (get_or c.args.dims.now c.each.place 0) d.0 c.index-weights-dims.result (rw c.model.ensures at c.weights.ensures) d.1).1 c.index-weights-dims.is in
    let set = set-at c.args.model.now.space.dimensions c.args.dims.now c.args.sets.now c.each.place d.0 c.requires.dims c.requires.sets c.each-test.true d.1 in
    let element = element-at c.args.model.now.space.dimensions c.args.dims.now c.args.elements.now c.each.place d.0 c.requires.dims c.requires.digits c.each-test.true d.1 in
    let same : get_or c.args.sets.now c.each.place None ≡ c.index-sets-place.result = same-at c.args.sets.now c.each.place None c.index-sets-place.result set.0 c.index-sets-place.is in
    let above = (above-there c.args.model.now.space.dimensions c.above.result.now (get_or c.args.dims.now c.each.place 0) d.0 c.index-above-dims.result c.above.ensures d.1).1 c.index-above-dims.is in
    let rest = in_source_sets (axes_of c.args.model.now.space.dimensions (drop (c.each.place + 1) c.args.dims.now)) (drop (c.each.place + 1) c.args.sets.now) (drop (c.each.place + 1) c.args.elements.now) in
    sources-turn c.args.model.now.space.dimensions c.args.dims.now c.args.sets.now c.args.elements.now c.each.place d.0 c.each-test.true set.0 element.0 d.1
    ∙ ap (λ (b : Bool). b && rest) (ap (λ (s : Option (List ℕ)). in_source_set d.0 s (get_or c.args.elements.now c.each.place 0)) same ∙ sym (c.in_source_set.ensures d.0 table above))

pub returns-then-not-in_source_set : goal.returns-then-not-in_source_set
returns-then-not-in_source_set c =
    let off : c.in_source_set.result ≡ false = search rules in
    let rest = in_source_sets (axes_of c.args.model.now.space.dimensions (drop (c.each.place + 1) c.args.dims.now)) (drop (c.each.place + 1) c.args.sets.now) (drop (c.each.place + 1) c.args.elements.now) in
    sym (c.each.invariant ∙ turn (goal.at.returns-then-not-in_source_set c).After-in_source_set ∙ ap (λ (b : Bool). b && rest) off)

pub each-preserved : goal.each-preserved
each-preserved c =
    let on : c.in_source_set.result ≡ true = search rules in
    let rest = in_source_sets (axes_of c.args.model.now.space.dimensions (drop (c.each.place + 1) c.args.dims.now)) (drop (c.each.place + 1) c.args.sets.now) (drop (c.each.place + 1) c.args.elements.now) in
    c.each.invariant ∙ turn (goal.at.each-preserved c).After-in_source_set ∙ ap (λ (b : Bool). b && rest) on

pub returns : goal.returns
returns c = sym (c.each.invariant ∙ sources-end c.args.model.now.space.dimensions c.args.dims.now c.args.sets.now c.args.elements.now c.each.place c.each-test.false)
