use Rattle.std.proofs.Common.{◌≡◌, ◌⊎◌, inl, inr, ◌<◌, ◌≤◌, ◌+◌, ◌∙◌, sym, subst, true, ℕ, ℤ, List, [], slice_index, arith}
use Rattle.std.proofs.lemmas.Bool.{cases_lt}
use Rattle.dim_order.specs.Inside.Ranks.{are_below}
use Rattle.dim_order.specs.Loops.{parts_of}
use Rattle.lists.proofs.Places.{get_or_within}
use Rattle.dim_order.proofs.ranks.are_ranks.Goals as goal

pub loop-element-preserved : goal.loop-element-preserved
loop-element-preserved c k low = by (cases_lt k c.loop-element.element)
  where
    by : (k < c.loop-element.element) ⊎ (c.loop-element.element ≤ k) → are_below c.args.ranks.now (slice_index c.args.ranks.now k + 1) (parts_of c.args.lists.now k) ≡ true
    by (inl before) = c.loop-element.invariant k before
    by (inr last) =
        let same : k ≡ c.loop-element.element = omega (arith, low) in
        let parts : c.as_slice.result.now ≡ parts_of c.args.lists.now c.loop-element.element =
        c.as_slice.ensures ∙ c.index-lists-element.is ∙ get_or_within c.args.lists.now c.loop-element.element _ [] c.loop-element-test.true in
        let below : are_below c.args.ranks.now (c.rank_at-rank.result + 1) c.as_slice.result.now ≡ true = sym c.are_below.ensures ∙ c.if-not-are_below.false in
        let R : List (ℕ × ℤ) → Type 0 = λ ps. are_below c.args.ranks.now (slice_index c.args.ranks.now c.loop-element.element + 1) ps ≡ true in
        rw same (subst R parts (rw c.rank_at-rank.ensures.rank at below))

pub returns : goal.returns
returns c so element there = c.loop-element.invariant element (omega (arith, there, c.loop-element-test.false))
