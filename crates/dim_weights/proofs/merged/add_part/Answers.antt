use Rattle.std.proofs.Common.{◌≡◌, ◌∙◌, ◌<◌, ◌≤◌, ◌-◌, ◌+◌, ◌+ℤ◌, ◌*ℤ◌, ap, refl, sym, subst, pos, ℕ, ℤ, All, get_or, length, set, arith, rules, w64, FitsSigned, to_z, of_z, unsigned_abs}
use Rattle.std.proofs.lemmas.Int.{to_z-of_z}
use Rattle.lists.proofs.Places.{get_or_within}
use Rattle.dim_weights.specs.Coefficients.{weighted_sum}
use Rattle.dim_weights.proofs.MergedSums.{weighted_sum-more, small-more, within-more, small-push}
use Rattle.dim_weights.proofs.SumFacts.{weighted_sum-push}
use Rattle.dim_weights.proofs.merged.add_part.Goals as goal

pub together-requires-clause-first : goal.together-requires-clause-first
together-requires-clause-first c =
    let there : c.len-count.result - 1 < length c.args.made.now.items = omega (arith, c.len-count.ensures, c.args.made.now.ok, c.if-count-gt0.true) in
    let fits : FitsSigned w64 c.index-then-index-part.result.now.1 = search rules in
    let same : c.index-then-index-part.result.now ≡ get_or c.args.made.now.items (c.len-count.result - 1) (0, pos 0) = c.index-then-index-part.ensures ∙ get_or_within c.args.made.now.items (c.len-count.result - 1) _ (0, pos 0) there in
    rw (to_z-of_z w64 c.index-then-index-part.result.now.1 fits, same) (c.requires.room (c.len-count.result - 1) (0, pos 0) there)

-- the last component is there
there : (c : goal.After-made-1) → c.len-count.result - 1 < length c.args.made.now.items
there c = omega (arith, c.len-count.ensures, c.args.made.now.ok, c.if-count-gt0.true)

-- what is put in its place
put : (c : goal.After-made-1) → ◌≡◌ {A = ℕ × ℤ} (c.index_mut.result.now.0, to_z w64 (of_z w64 c.together.result))
    ((get_or c.args.made.now.items (c.len-count.result - 1) (0, pos 0)).0, (get_or c.args.made.now.items (c.len-count.result - 1) (0, pos 0)).1 +ℤ c.args.weight)
put c =
    let fits : FitsSigned w64 c.index-then-index-part.result.now.1 = search rules in
    let whole : FitsSigned w64 c.together.result = search rules in
    let one : c.index_mut.result.now ≡ get_or c.args.made.now.items (c.len-count.result - 1) (0, pos 0) = c.index_mut.ensures.value ∙ get_or_within c.args.made.now.items (c.len-count.result - 1) _ (0, pos 0) (there c) in
    let two : c.index-then-index-part.result.now ≡ get_or c.args.made.now.items (c.len-count.result - 1) (0, pos 0) = c.index-then-index-part.ensures ∙ get_or_within c.args.made.now.items (c.len-count.result - 1) _ (0, pos 0) (there c) in
    let sum : c.together.result ≡ (get_or c.args.made.now.items (c.len-count.result - 1) (0, pos 0)).1 +ℤ c.args.weight = rw (to_z-of_z w64 c.index-then-index-part.result.now.1 fits, to_z-of_z w64 c.args.weight c.ranges.weight, two) at c.together.ensures in
    rw (to_z-of_z w64 c.together.result whole, one, sum) refl

pub returns-then-index-part-clause-sum : goal.returns-then-index-part-clause-sum
returns-then-index-part-clause-sum c f =
    let same : c.index.result.now ≡ get_or c.args.made.now.items (c.len-count.result - 1) (0, pos 0) = c.index.ensures ∙ get_or_within c.args.made.now.items (c.len-count.result - 1) _ (0, pos 0) (there c) in
    let part : (get_or c.args.made.now.items (c.len-count.result - 1) (0, pos 0)).0 ≡ c.args.part = rw same at c.if-index-part.true in
    let more = weighted_sum-more f c.args.made.now.items (c.len-count.result - 1) (0, pos 0) c.args.weight (there c) in
    let R : ℕ × ℤ → Type 0 = λ p. weighted_sum f (set c.args.made.now.items (c.len-count.result - 1) p) ≡ weighted_sum f c.args.made.now.items +ℤ (c.args.weight *ℤ f (get_or c.args.made.now.items (c.len-count.result - 1) (0, pos 0)).0) in
    subst R (sym (put c)) more ∙ ap (λ (x : ℕ). weighted_sum f c.args.made.now.items +ℤ (c.args.weight *ℤ f x)) part

pub returns-then-index-part-clause-within : goal.returns-then-index-part-clause-within
returns-then-index-part-clause-within c n within part =
    let R : ℕ × ℤ → Type 0 = λ p. All (λ (q : ℕ × ℤ). q.0 < n) (set c.args.made.now.items (c.len-count.result - 1) p) in
    subst R (sym (put c)) (within-more c.args.made.now.items (c.len-count.result - 1) n (0, pos 0) c.args.weight (there c) within)

pub returns-then-index-part-clause-small : goal.returns-then-index-part-clause-small
returns-then-index-part-clause-small c m small =
    let R : ℕ × ℤ → Type 0 = λ p. All (λ (q : ℕ × ℤ). unsigned_abs q.1 ≤ m + 1000000) (set c.args.made.now.items (c.len-count.result - 1) p) in
    subst R (sym (put c)) (small-more c.args.made.now.items (c.len-count.result - 1) (0, pos 0) c.args.weight m (there c) c.requires.weight small)

pub returns-in_ok-push-clause-sum : goal.returns-in_ok-push-clause-sum
returns-in_ok-push-clause-sum c f = rw (c.in_ok-push.ensures.items, to_z-of_z w64 c.args.weight c.ranges.weight) (weighted_sum-push f c.args.made.now.items (c.args.part, c.args.weight))

pub returns-in_ok-push-clause-small : goal.returns-in_ok-push-clause-small
returns-in_ok-push-clause-small c m small = rw (c.in_ok-push.ensures.items, to_z-of_z w64 c.args.weight c.ranges.weight) (small-push c.args.made.now.items (c.args.part, c.args.weight) m c.requires.weight small)
