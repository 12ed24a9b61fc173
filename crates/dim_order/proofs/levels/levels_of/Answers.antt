use Rattle.std.proofs.Common.{◌≡◌, ◌<◌, ◌∙◌, sym, subst, ap, ℕ, ℤ, List, [], All, length, slice_index, get_or, arith}
use Rattle.std.proofs.Math.ListN.{length-set}
use Rattle.dim_order.specs.Levels.{level_over}
use Rattle.dim_order.specs.Loops.{parts_of}
use Rattle.dim_order.proofs.LevelFacts.{order-within, components-within, levels-known, levels-small, levels-all}
use Rattle.lists.proofs.Places.{get_or_within}
use Rattle.dim_order.proofs.levels.levels_of.Goals as goal

pub bounds-lists-element : goal.bounds-lists-element
bounds-lists-element c = order-within c.args.lists.now c.args.order.now c.requires.ordered c.loop-element.element-index c.loop-element-test.true

pub level_over-above-requires-clause-within : goal.level_over-above-requires-clause-within
level_over-above-requires-clause-within c =
    let within = order-within c.args.lists.now c.args.order.now c.requires.ordered c.loop-element.element-index c.loop-element-test.true in
    let parts : c.as_slice.result.now ≡ parts_of c.args.lists.now (get_or c.args.order.now c.loop-element.element-index 0) = c.as_slice.ensures ∙ c.index-lists-element.is ∙ get_or_within c.args.lists.now (get_or c.args.order.now c.loop-element.element-index 0) _ [] within in
    let all = components-within c.args.lists.now c.args.order.now c.requires.ordered c.loop-element.element-index c.loop-element-test.true in
    let same : length c.args.lists.now ≡ length c.deref.result.now = sym c.loop-element.invariant.whole ∙ sym (ap length c.deref.ensures.value) in
    let P : List (ℕ × ℤ) → Type 0 = λ ps. All (λ (part : ℕ × ℤ). part.0 < length c.deref.result.now) ps in
    let N : ℕ → Type 0 = λ n. All (λ (part : ℕ × ℤ). part.0 < n) (parts_of c.args.lists.now (get_or c.args.order.now c.loop-element.element-index 0)) in
    subst P (sym parts) (subst N same all)

pub index_mut-requires : goal.index_mut-requires
index_mut-requires c =
    let within = order-within c.args.lists.now c.args.order.now c.requires.ordered c.loop-element.element-index c.loop-element-test.true in
    omega (arith, within, c.loop-element.invariant.whole)

pub loop-element-preserved : goal.loop-element-preserved
loop-element-preserved c =
    let within = order-within c.args.lists.now c.args.order.now c.requires.ordered c.loop-element.element-index c.loop-element-test.true in
    let parts : c.as_slice.result.now ≡ parts_of c.args.lists.now (get_or c.args.order.now c.loop-element.element-index 0) = c.as_slice.ensures ∙ c.index-lists-element.is ∙ get_or_within c.args.lists.now (get_or c.args.order.now c.loop-element.element-index 0) _ [] within in
    let made : c.level_over-above.result ≡ level_over (slice_index c.loop-element.levels.items) (parts_of c.args.lists.now (get_or c.args.order.now c.loop-element.element-index 0)) = rw (c.deref.ensures.value, parts) at c.level_over-above.ensures in
    record {
      whole = length-set c.loop-element.levels.items (get_or c.args.order.now c.loop-element.element-index 0) c.level_over-above.result ∙ c.loop-element.invariant.whole;
      small = levels-small c.args.lists.now c.args.order.now c.requires.ordered c.loop-element.levels.items c.loop-element.element-index c.level_over-above.result c.loop-element-test.true c.loop-element.invariant.whole c.loop-element.invariant.made made c.loop-element.invariant.small;
      made = levels-known c.args.lists.now c.args.order.now c.requires.ordered c.loop-element.levels.items c.loop-element.element-index c.level_over-above.result c.loop-element-test.true c.loop-element.invariant.whole c.loop-element.invariant.made made;
    }

pub returns : goal.returns
returns c = levels-all c.args.lists.now c.args.order.now c.requires.ordered c.loop-element.levels.items c.loop-element.element-index c.loop-element-test.false c.loop-element.invariant.whole c.loop-element.invariant.made
