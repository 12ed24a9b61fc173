use Rattle.std.proofs.Common.{◌≡◌, sym, ap, ◌∙◌, arith, ℕ, suc, ◌+◌, ◌-◌, length, get_or, if◌then◌else◌}
use Rattle.check_order.specs.Inside.Tops.{taken_rank}
use Rattle.check_order.proofs.Greatest.{mapped-from}
use Rattle.check_order.proofs.tops.greatest_taken.Goals as goal
use Rattle.check_order.proofs.tops.greatest_taken.Goals.{then-is_taken, else-is_taken}

pub each-preserved : goal.each-preserved
each-preserved c =
    let n : ℕ = length c.args.dimension.now.elements in
    let more : n - c.each.element ≡ suc (n - (c.each.element + 1)) = omega (arith, c.each-test.true, c.len-element-end.ensures.len) in
    let rank : ℕ = get_or c.args.ranks.now c.each.element 0 in
    let next = mapped-from (taken_rank c.args.which c.args.dimension.now c.args.ranks.now) c.each.element (n - c.each.element) (n - (c.each.element + 1)) more in
    elim c.if-is_taken.branch [
      | then-is_taken w ↦
          let taken : taken_rank c.args.which c.args.dimension.now c.args.ranks.now c.each.element ≡ rank = ap (λ t. if t then rank else 0) (sym c.is_taken.ensures ∙ w.if-is_taken.true) in
          omega (arith, next, c.each.invariant, taken, w.max-most.ensures, w.most-is)
      | else-is_taken w ↦
          let left : taken_rank c.args.which c.args.dimension.now c.args.ranks.now c.each.element ≡ 0 = ap (λ t. if t then rank else 0) (sym c.is_taken.ensures ∙ w.if-is_taken.false) in
          omega (arith, next, c.each.invariant, left, w.most-is)
    ]
