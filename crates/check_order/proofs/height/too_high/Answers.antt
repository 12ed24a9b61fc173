use Rattle.std.proofs.Common.{◌≡◌, ◌∙◌, subst, ap, arith, suc, ◌+◌, ◌*◌, ◌-◌, ◌<◌, ◌≤◌, Some, take}
use Rattle.cube_space.specs.Radix.{product}
use Rattle.rule_model.specs.Order.{most_height, most_positions, position_sizes}
use Rattle.check_order.specs.Heights.{first_too_high}
use Rattle.check_order.proofs.HeightFacts.{high-here, high-past, height-next}
use Rattle.check_order.proofs.height.too_high.Goals as goal

pub returns-then-height-gt-MAX_HEIGHT : goal.returns-then-height-gt-MAX_HEIGHT
unfolding first_too_high
returns-then-height-gt-MAX_HEIGHT c =
    let next : c.each.height * c.position_size-height.result ≡ product (take (c.each.place + 1) (position_sizes c.args.model.now)) =
    height-next c.args.model.now c.each.place c.each.height c.position_size-height.result c.each-test.true c.each.invariant.height c.position_size-height.ensures.value in
    let high : most_height < product (take (c.each.place + 1) (position_sizes c.args.model.now)) = subst (λ h. most_height < h) next c.if-height-gt-MAX_HEIGHT.true in
    let more : most_positions - c.each.place ≡ suc (most_positions - (c.each.place + 1)) = omega (arith, c.each-test.true) in
    ap Some next ∙ high-here (position_sizes c.args.model.now) c.each.place (most_positions - c.each.place) (most_positions - (c.each.place + 1)) more high ∙ c.each.invariant.rest

pub each-preserved : goal.each-preserved
each-preserved c =
    let next : c.each.height * c.position_size-height.result ≡ product (take (c.each.place + 1) (position_sizes c.args.model.now)) =
    height-next c.args.model.now c.each.place c.each.height c.position_size-height.result c.each-test.true c.each.invariant.height c.position_size-height.ensures.value in
    let low : product (take (c.each.place + 1) (position_sizes c.args.model.now)) ≤ most_height = subst (λ h. h ≤ most_height) next c.if-height-gt-MAX_HEIGHT.false in
    let more : most_positions - c.each.place ≡ suc (most_positions - (c.each.place + 1)) = omega (arith, c.each-test.true) in
    record {
      height = next;
      low = c.if-height-gt-MAX_HEIGHT.false;
      rest = high-past (position_sizes c.args.model.now) c.each.place (most_positions - c.each.place) (most_positions - (c.each.place + 1)) more low ∙ c.each.invariant.rest;
    }
