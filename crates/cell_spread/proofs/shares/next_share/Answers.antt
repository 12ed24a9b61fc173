use Rattle.std.proofs.Common.{rules, ◌≡◌, ◌∙◌, sym, ap, arith, inl, inr, true, false, Bool, ℤ, ◌*ℤ◌, ◌+ℤ◌, pos, pred, if◌then◌else◌, w64, to_z, of_z, FitsSigned}
use Rattle.std.proofs.lemmas.Int.{ints, to_z-of_z}
use mir.Syntax.{w128}
use Rattle.cell_spread.specs.Shares.{goes_up, floor_ratio}
use Rattle.cell_spread.specs.Inside.Remainders.{left_of}
use Rattle.cell_spread.proofs.Rounding.{goes-on, ends-up, one-less, three}
use Rattle.cell_spread.proofs.shares.next_share.Goals.{After-share_of-floor, else-up-gt0-via-then-up-gt0+else-left-gt0, else-up-gt0-via-else-up-gt0}
use Rattle.cell_spread.proofs.shares.next_share.Goals as goal

left : (c : After-share_of-floor) → c.share_of-floor.result.1 ≡ left_of (c.args.amount *ℤ c.args.part) c.args.total
left c =
    c.share_of-floor.ensures.left
    ∙ three (λ (a p t : ℤ). left_of (a *ℤ p) t) (to_z-of_z w64 c.args.amount c.ranges.amount) (to_z-of_z w64 c.args.part c.ranges.part) (to_z-of_z w128 c.args.total c.ranges.total)

floor : (c : After-share_of-floor) → c.share_of-floor.result.0 ≡ floor_ratio (c.args.amount *ℤ c.args.part) c.args.total
floor c =
    c.share_of-floor.ensures.floor
    ∙ three (λ (a p t : ℤ). floor_ratio (a *ℤ p) t) (to_z-of_z w64 c.args.amount c.ranges.amount) (to_z-of_z w64 c.args.part c.ranges.part) (to_z-of_z w128 c.args.total c.ranges.total)

pub returns-then-left-gt0-clause-share : goal.returns-then-left-gt0-clause-share
returns-then-left-gt0-clause-share c =
    let left = left (goal.at.returns-then-left-gt0-clause-share c).After-share_of-floor in
    let size = c.share_of-floor.ensures.size in
    let on : goes_up c.args.amount c.args.total c.args.up c.args.part ≡ true = goes-on c.args.amount c.args.total c.args.up c.args.part (omega arith) (omega (arith, left)) in
    let whole : to_z w128 (of_z w128 (to_z w128 (of_z w128 c.share_of-floor.result.0) +ℤ pos 1)) ≡ c.share_of-floor.result.0 +ℤ pos 1 = omega (arith, ints, size) in
    let down : ℤ = floor_ratio (c.args.amount *ℤ c.args.part) c.args.total in
    whole ∙ ap (λ (z : ℤ). z +ℤ pos 1) (floor (goal.at.returns-then-left-gt0-clause-share c).After-share_of-floor)
    ∙ sym (ap (λ (b : Bool). if b then down +ℤ pos 1 else down) on)

pub returns-then-left-gt0-clause-up : goal.returns-then-left-gt0-clause-up
returns-then-left-gt0-clause-up c =
    let left = left (goal.at.returns-then-left-gt0-clause-up c).After-share_of-floor in
    let on : goes_up c.args.amount c.args.total c.args.up c.args.part ≡ true = goes-on c.args.amount c.args.total c.args.up c.args.part (omega arith) (omega (arith, left)) in
    one-less c.args.up ∙ sym (ap (λ (b : Bool). if b then pred c.args.up else c.args.up) on)

pub returns-else-up-gt0-clause-share : goal.returns-else-up-gt0-clause-share
returns-else-up-gt0-clause-share c =
    let left = left (goal.at.returns-else-up-gt0-clause-share c).After-share_of-floor in
    let off : goes_up c.args.amount c.args.total c.args.up c.args.part ≡ false =
    ends-up c.args.amount c.args.total c.args.up c.args.part (elim c.else-up-gt0.branch [
      | else-up-gt0-via-then-up-gt0+else-left-gt0 w ↦ inr (let f = w.if-left-gt0 in omega (arith, left))
      | else-up-gt0-via-else-up-gt0 w ↦ inl (let f = w.if-up-gt0 in omega arith)
    ]) in
    let fits : FitsSigned w128 c.share_of-floor.result.0 = search rules in
    let down : ℤ = floor_ratio (c.args.amount *ℤ c.args.part) c.args.total in
    to_z-of_z w128 c.share_of-floor.result.0 fits ∙ floor (goal.at.returns-else-up-gt0-clause-share c).After-share_of-floor
    ∙ sym (ap (λ (b : Bool). if b then down +ℤ pos 1 else down) off)

pub returns-else-up-gt0-clause-up : goal.returns-else-up-gt0-clause-up
returns-else-up-gt0-clause-up c =
    let left = left (goal.at.returns-else-up-gt0-clause-up c).After-share_of-floor in
    let off : goes_up c.args.amount c.args.total c.args.up c.args.part ≡ false =
    ends-up c.args.amount c.args.total c.args.up c.args.part (elim c.else-up-gt0.branch [
      | else-up-gt0-via-then-up-gt0+else-left-gt0 w ↦ inr (let f = w.if-left-gt0 in omega (arith, left))
      | else-up-gt0-via-else-up-gt0 w ↦ inl (let f = w.if-up-gt0 in omega arith)
    ]) in
    sym (ap (λ (b : Bool). if b then pred c.args.up else c.args.up) off)
