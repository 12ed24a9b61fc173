use Rattle.std.proofs.Common.{rules, ◌≡◌, ◌∙◌, refl, sym, ap, subst, inr, get_or, drop, ℕ, ℤ, ◌*ℤ◌, ◌+ℤ◌, pos, pred, ◌+◌, List, [], ◌∷◌, ◌++◌, true, if◌then◌else◌, w64, to_z, of_z, FitsSigned}
use Rattle.std.proofs.lemmas.Int.{to_z-of_z}
use mir.Syntax.{w128}
use Rattle.cube_fixed.specs.Range.{IsInRange}
use Rattle.cell_spread.specs.Shares.{goes_up, floor_ratio, rounded_up}
use Rattle.cell_spread.specs.Spread.{are_in_range}
use Rattle.cell_spread.proofs.Rounding.{rounded-step, rounded-ends, rounded-same, range-push, range-fails}
use Rattle.cell_spread.proofs.shares.rounded_up.Goals.{After-next_share-share, After-loop-cell}
use Rattle.cell_spread.proofs.shares.rounded_up.Goals as goal

same : (c : After-loop-cell) → rounded_up (to_z w64 (of_z w64 c.args.amount)) (to_z w128 (of_z w128 c.args.total)) c.args.up c.args.parts.now ≡ rounded_up c.args.amount c.args.total c.args.up c.args.parts.now
same c =
    rounded-same c.args.parts.now (to_z-of_z w64 c.args.amount c.ranges.amount) (to_z-of_z w128 c.args.total c.ranges.total) refl

-- what the next share is
record IsNext (a t : ℤ) (up : ℕ) (part share : ℤ) (left : ℕ) : Type 0 where
  number : share ≡ (if goes_up a t up part then floor_ratio (a *ℤ part) t +ℤ pos 1 else floor_ratio (a *ℤ part) t)
  next : left ≡ (if goes_up a t up part then pred up else up)
  word : to_z w128 (of_z w128 share) ≡ share

next-is : (c : After-next_share-share) → IsNext (to_z w64 (of_z w64 c.args.amount)) (to_z w128 (of_z w128 c.args.total)) c.loop-cell.up (get_or c.args.parts.now c.loop-cell.cell-index (0, pos 0)).1 c.next_share-share.result.0 c.next_share-share.result.1
next-is c =
    let part = get_or c.args.parts.now c.loop-cell.cell-index (0, pos 0) in
    let a : ℤ = to_z w64 (of_z w64 c.args.amount) in
    let t : ℤ = to_z w128 (of_z w128 c.args.total) in
    let fits : FitsSigned w64 part.1 = search rules in
    let wp = to_z-of_z w64 part.1 fits in
    let wide : FitsSigned w128 c.next_share-share.result.0 = search rules in
    record {
      number = c.next_share-share.ensures.share ∙ ap (λ (p : ℤ). if goes_up a t c.loop-cell.up p then floor_ratio (a *ℤ p) t +ℤ pos 1 else floor_ratio (a *ℤ p) t) wp;
      next = c.next_share-share.ensures.up ∙ ap (λ (p : ℤ). if goes_up a t c.loop-cell.up p then pred c.loop-cell.up else c.loop-cell.up) wp;
      word = to_z-of_z w128 c.next_share-share.result.0 wide;
    }

pub returns-in_default-clause-fault : goal.returns-in_default-clause-fault
returns-in_default-clause-fault c =
    let n = next-is (goal.at.returns-in_default-clause-fault c).After-next_share-share in
    let own = rounded-same c.args.parts.now {u = c.args.up} (to_z-of_z w64 c.args.amount c.ranges.amount) (to_z-of_z w128 c.args.total c.ranges.total) refl in
    inr (
      refl,
      ap are_in_range (sym own)
          ∙ range-fails (to_z w64 (of_z w64 c.args.amount)) (to_z w128 (of_z w128 c.args.total)) c.loop-cell.up c.args.parts.now c.loop-cell.shares.items _ c.loop-cell.cell-index (0, pos 0) c.next_share-share.result.0 c.next_share-share.result.1
          c.loop-cell-test.true n.number n.next c.loop-cell.invariant.front (λ small. c.in_default.ensures (subst IsInRange (sym n.word) small)),
    )

pub loop-cell-preserved : goal.loop-cell-preserved
loop-cell-preserved c =
    let n = next-is (goal.at.loop-cell-preserved c).After-next_share-share in
    let part = get_or c.args.parts.now c.loop-cell.cell-index (0, pos 0) in
    let front = c.loop-cell.shares.items in
    let some = c.in-Some.ensures in
    let items : c.push.new.self.items ≡ front ++ (part.0, c.next_share-share.result.0) ∷ [] = c.in_ok-push.ensures.items ∙ ap (λ (z : ℤ). front ++ (part.0, z) ∷ []) (some.1 ∙ n.word) in
    record {
      front = ap (λ (xs : List (ℕ × ℤ)). xs ++ rounded_up (to_z w64 (of_z w64 c.args.amount)) (to_z w128 (of_z w128 c.args.total)) c.next_share-share.result.1 (drop (c.loop-cell.cell-index + 1) c.args.parts.now)) items
          ∙ rounded-step (to_z w64 (of_z w64 c.args.amount)) (to_z w128 (of_z w128 c.args.total)) c.loop-cell.up c.args.parts.now front _ c.loop-cell.cell-index (0, pos 0) c.next_share-share.result.0 c.next_share-share.result.1
          c.loop-cell-test.true n.number n.next c.loop-cell.invariant.front;
      within = subst (λ (xs : List (ℕ × ℤ)). are_in_range xs ≡ true) (sym items) (range-push front part.0 c.next_share-share.result.0 c.loop-cell.invariant.within (subst IsInRange n.word some.0));
    }

pub returns-clause-shares : goal.returns-clause-shares
returns-clause-shares c =
    rounded-ends (to_z w64 (of_z w64 c.args.amount)) (to_z w128 (of_z w128 c.args.total)) c.loop-cell.up c.args.parts.now c.loop-cell.shares.items _ c.loop-cell.cell-index c.loop-cell-test.false c.loop-cell.invariant.front
    ∙ same (goal.at.returns-clause-shares c).After-loop-cell

pub returns-clause-within : goal.returns-clause-within
returns-clause-within c =
    subst (λ (xs : List (ℕ × ℤ)). are_in_range xs ≡ true)
    (rounded-ends (to_z w64 (of_z w64 c.args.amount)) (to_z w128 (of_z w128 c.args.total)) c.loop-cell.up c.args.parts.now c.loop-cell.shares.items _ c.loop-cell.cell-index c.loop-cell-test.false c.loop-cell.invariant.front
    ∙ same (goal.at.returns-clause-within c).After-loop-cell)
    c.loop-cell.invariant.within
