use Rattle.std.proofs.Common.{◌∙◌, sym, ap, subst, arith, length, Option, None, List, ℕ, get_or}
use Rattle.cube_space.specs.Layout.{axes_of}
use Rattle.rule_model.specs.Areas.{in_source_set}
use Rattle.rule_model.specs.Conditions.{IsSet}
use Rattle.feed_sources.specs.Inside.Choices.{AreChosen}
use Rattle.feed_sources.proofs.SourceFacts.{axis-at, set-at, same-at}
use Rattle.feed_sources.proofs.ChoiceFacts.{chosen-set, sources-at}
use Rattle.feed_sources.proofs.choices.choose_listed.Goals.{in-Some, in_default}
use Rattle.feed_sources.proofs.choices.choose_listed.Goals as goal

pub bounds-sets-place : goal.bounds-sets-place
bounds-sets-place c =
    (set-at c.args.space.now.dimensions c.args.dims.now c.args.sets.now c.each.place c.dimension.result.now c.requires.dims c.requires.sets c.each-test.true c.dimension.ensures).0

pub only_leaf-requires : goal.only_leaf-requires
only_leaf-requires c =
    let set = set-at c.args.space.now.dimensions c.args.dims.now c.args.sets.now c.each.place c.dimension.result.now c.requires.dims c.requires.sets c.each-test.true c.dimension.ensures in
    subst (IsSet (length c.dimension.result.now.elements)) (same-at c.args.sets.now c.each.place None c.index-sets-place.result set.0 c.index-sets-place.is) set.1

pub each-preserved : goal.each-preserved
each-preserved c = λ elements on begun.
    let set = set-at c.args.space.now.dimensions c.args.dims.now c.args.sets.now c.each.place c.dimension.result.now c.requires.dims c.requires.sets c.each-test.true c.dimension.ensures in
    let same = same-at c.args.sets.now c.each.place None c.index-sets-place.result set.0 c.index-sets-place.is in
    let before : AreChosen c.each.choices elements = c.each.invariant elements on begun in
    let axis = axis-at c.args.space.now.dimensions c.args.dims.now c.each.place c.dimension.result.now c.requires.dims c.each-test.true c.dimension.ensures in
    let after : AreChosen c.match-only_leaf.choices elements = elim c.match-only_leaf.branch [
      | in-Some w ↦ chosen-set c.each.choices c.match-only_leaf.choices c.each.place w.in-Some.leaf elements (omega (arith, c.requires.few, c.each-test.true, c.match-only_leaf.array_long)) w.choices-is before
          (λ within. w.in-Some.ensures (get_or elements c.each.place 0)
          (ap (λ (s : Option (List ℕ)). in_source_set c.dimension.result.now s (get_or elements c.each.place 0)) (sym same)
          ∙ sources-at (axes_of c.args.space.now.dimensions c.args.dims.now) c.args.sets.now elements c.each.place c.dimension.result.now on axis set.0 within))
      | in_default w ↦ subst (λ cs. AreChosen cs elements) (sym w.choices-is) before
    ] in
    after
