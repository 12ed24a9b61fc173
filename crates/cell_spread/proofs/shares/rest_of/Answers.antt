use Rattle.std.proofs.Common.{rules, ◌≡◌, ◌∙◌, ◌≢◌, ◌*◌, ◌/◌, ◌<◌, ◌≤◌, ◌*ℤ◌, pos, ℕ, ℤ, sym, ap, subst, arith, length, get_or, unsigned_abs, w64, FitsSigned}
use Rattle.std.proofs.lemmas.Int.{ints, to_z-of_z}
use mir.Syntax.{w128}
use Rattle.cell_spread.specs.Shares.{sum_of}
use Rattle.cell_spread.specs.Inside.Remainders.{left_of, lefts_of}
use Rattle.cell_spread.proofs.Rounding.{rest-step, rest-size, rest-ends, rest-is-left, quotient-low}
use Rattle.cell_spread.proofs.Ratios.{some-size}
use Rattle.cell_spread.proofs.shares.rest_of.Goals as goal

pub loop-part-preserved : goal.loop-part-preserved
loop-part-preserved c =
    let part = get_or c.args.parts.now c.loop-part.part-index (0, pos 0) in
    let there : c.loop-part.part-index < length c.args.parts.now = c.loop-part-test.true in
    let wa = to_z-of_z w64 c.args.amount c.ranges.amount in
    let wt = to_z-of_z w128 c.args.total c.ranges.total in
    let fits : FitsSigned w64 part.1 = search rules in
    let wp = to_z-of_z w64 part.1 fits in
    let own : c.share_of-left.result.1 ≡ left_of (c.args.amount *ℤ part.1) c.args.total = cc c.share_of-left.ensures.left in
    let less : c.share_of-left.result.1 < unsigned_abs c.args.total = (let l = c.share_of-left.ensures.less in omega (arith, ints, l)) in
    let sum = rw (wa, wt) at c.loop-part.invariant.sum in
    let size = rw wt at c.loop-part.invariant.size in
    rw (wa, wt) (record {
      sum = rest-step c.args.amount c.args.total c.args.parts.now c.loop-part.part-index c.share_of-left.result.1 c.loop-part.left (0, pos 0) there own sum;
      size = rest-size (unsigned_abs c.args.total) c.loop-part.part-index c.share_of-left.result.1 c.loop-part.left size less;
    })

pub overflow_cast-result : goal.overflow_cast-result
overflow_cast-result c =
    let wt = to_z-of_z w128 c.args.total c.ranges.total in
    let size : c.unsigned_abs.result ≡ unsigned_abs c.args.total = (let e = c.unsigned_abs.ensures.value in omega (arith, ints, e)) in
    let before = rw wt at c.loop-part.invariant.size in
    let some : 0 < c.unsigned_abs.result = (let s = some-size c.args.total c.requires.total in omega (arith, s, size)) in
    let low = quotient-low c.loop-part.left c.unsigned_abs.result c.loop-part.part-index some (subst (λ (n : ℕ). c.loop-part.left ≤ c.loop-part.part-index * n) (sym size) before) in
    let end = c.loop-part.auto.part-index-end in
    omega (arith, low, end, c.requires.few)

pub returns : goal.returns
returns c =
    let wa = to_z-of_z w64 c.args.amount c.ranges.amount in
    let wt = to_z-of_z w128 c.args.total c.ranges.total in
    let sum = rw (wa, wt) at c.loop-part.invariant.sum in
    let past : length c.args.parts.now ≤ c.loop-part.part-index = search rules in
    let left : c.loop-part.left ≡ lefts_of c.args.amount c.args.total c.args.parts.now = rest-ends c.args.amount c.args.total c.args.parts.now c.loop-part.part-index c.loop-part.left past sum in
    let total : c.args.total ≡ sum_of c.args.parts.now = c.requires.sum in
    let size : c.unsigned_abs.result ≡ unsigned_abs c.args.total = (let e = c.unsigned_abs.ensures.value in omega (arith, ints, e)) in
    let some : sum_of c.args.parts.now ≢ pos 0 = λ none. c.requires.total (total ∙ none) in
    let own : c.loop-part.left ≡ lefts_of c.args.amount (sum_of c.args.parts.now) c.args.parts.now = left ∙ ap (λ (t : ℤ). lefts_of c.args.amount t c.args.parts.now) total in
    ap (λ (n : ℕ). c.loop-part.left / n) (size ∙ ap unsigned_abs total) ∙ rest-is-left c.args.amount c.args.parts.now c.loop-part.left some own
