use Rattle.std.proofs.Common.{◌≡◌, ◌∙◌, ◌<◌, ◌≤◌, ◌+◌, ◌*◌, ap, sym, subst, pos, ℕ, ℤ, List, All, get_or, length, take, arith, rules, w64, FitsSigned, unsigned_abs}
use Rattle.std.specs.List.Sorted.{IsPermutation}
use Rattle.std.proofs.lemmas.Int.{to_z-of_z}
use Rattle.std.proofs.lemmas.List.{take_all}
use Rattle.std.proofs.lemmas.List.Sorted.{All-permutation, length_permutation}
use Rattle.dim_core.specs.Outline.{IsWeight}
use Rattle.dim_weights.specs.Coefficients.{weighted_sum}
use Rattle.dim_weights.specs.Inside.Rows.{most_merged_weight}
use Rattle.dim_weights.proofs.MergedSums.{weighted_sum-permuted, raised}
use Rattle.dim_weights.proofs.SumFacts.{parts-step}
use Rattle.dim_weights.proofs.merged.merged.Goals as goal

pub add_part-requires-clause-weight : goal.add_part-requires-clause-weight
add_part-requires-clause-weight c =
    let moved = subst (λ (ys : List (ℕ × ℤ)). IsPermutation c.args.parts.now ys) (sym c.deref-part-items.ensures.value) c.in_ok-sorted.ensures in
    let fits : FitsSigned w64 (get_or c.deref-part-items.result.now c.parts.part-index (0, pos 0)).1 = search rules in
    let all = All-permutation (λ (part : ℕ × ℤ). IsWeight part.1) c.args.parts.now c.deref-part-items.result.now moved c.requires.weights in
    rw (to_z-of_z w64 (get_or c.deref-part-items.result.now c.parts.part-index (0, pos 0)).1 fits) (all c.parts.part-index (0, pos 0) c.parts-test.true)

pub parts-preserved : goal.parts-preserved
parts-preserved c =
    let there : c.parts.part-index < length c.deref-part-items.result.now = c.parts-test.true in
    let fits : FitsSigned w64 (get_or c.deref-part-items.result.now c.parts.part-index (0, pos 0)).1 = search rules in
    let weight = to_z-of_z w64 (get_or c.deref-part-items.result.now c.parts.part-index (0, pos 0)).1 fits in
    record {
      sum = λ f. (let added = c.in_ok-add_part.ensures.sum f in parts-step f c.deref-part-items.result.now c.parts.part-index _ _ there (c.parts.invariant.sum f) (rw weight at added));
      within = λ n within. c.in_ok-add_part.ensures.within n (c.parts.invariant.within n within) (within c.parts.part-index (0, pos 0) there);
      small = (let next : c.parts.part-index * 1000000 + 1000000 ≡ (c.parts.part-index + 1) * 1000000 = omega arith in
          subst (λ (m : ℕ). All (λ (part : ℕ × ℤ). unsigned_abs part.1 ≤ m) c.add_part.new.made.items) next (c.in_ok-add_part.ensures.small (c.parts.part-index * 1000000) c.parts.invariant.small));
      few = omega (arith, c.in_ok-add_part.ensures.few, c.parts.invariant.few);
    }

pub returns-clause-sum : goal.returns-clause-sum
returns-clause-sum c f =
    let moved = subst (λ (ys : List (ℕ × ℤ)). IsPermutation c.args.parts.now ys) (sym c.deref-part-items.ensures.value) c.in_ok-sorted.ensures in
    let whole : take c.parts.part-index c.deref-part-items.result.now ≡ c.deref-part-items.result.now = take_all c.parts.part-index c.deref-part-items.result.now c.parts-test.false in
    c.parts.invariant.sum f ∙ ap (weighted_sum f) whole ∙ weighted_sum-permuted f c.args.parts.now c.deref-part-items.result.now moved

pub returns-clause-within : goal.returns-clause-within
returns-clause-within c n within =
    let moved = subst (λ (ys : List (ℕ × ℤ)). IsPermutation c.args.parts.now ys) (sym c.deref-part-items.ensures.value) c.in_ok-sorted.ensures in
    c.parts.invariant.within n (All-permutation (λ (part : ℕ × ℤ). part.0 < n) c.args.parts.now c.deref-part-items.result.now moved within)

pub add_part-requires-clause-room : goal.add_part-requires-clause-room
add_part-requires-clause-room c =
    let moved = subst (λ (ys : List (ℕ × ℤ)). IsPermutation c.args.parts.now ys) (sym c.deref-part-items.ensures.value) c.in_ok-sorted.ensures in
    let long = length_permutation c.args.parts.now c.deref-part-items.result.now moved in
    raised (c.parts.part-index * 1000000) most_merged_weight c.parts.made.items (omega (arith, long, c.parts-test.true, c.requires.few)) c.parts.invariant.small

pub returns-clause-small : goal.returns-clause-small
returns-clause-small c =
    let moved = subst (λ (ys : List (ℕ × ℤ)). IsPermutation c.args.parts.now ys) (sym c.deref-part-items.ensures.value) c.in_ok-sorted.ensures in
    let long = length_permutation c.args.parts.now c.deref-part-items.result.now moved in
    raised (c.parts.part-index * 1000000) most_merged_weight c.parts.made.items (omega (arith, long, c.parts.auto.part-index-end, c.requires.few)) c.parts.invariant.small

pub returns-clause-few : goal.returns-clause-few
returns-clause-few c =
    let moved = subst (λ (ys : List (ℕ × ℤ)). IsPermutation c.args.parts.now ys) (sym c.deref-part-items.ensures.value) c.in_ok-sorted.ensures in
    let long = length_permutation c.args.parts.now c.deref-part-items.result.now moved in
    omega (arith, long, c.parts.auto.part-index-end, c.requires.few, c.parts.invariant.few)
