use Rattle.std.proofs.Common.{◌≡◌, ◌*◌, arith, ap, min, lit≤}
use Rattle.cube_space.specs.Radix.{product}
use Rattle.std.proofs.Math.Nat.{min-le_right}
use Rattle.cube_space.proofs.Steps.{product-turn, product-end}
use Rattle.cube_space.proofs.numbering.product.Goals as goal

pub loop-size-init : goal.loop-size-init
loop-size-init c =
    let one : 1 * product c.args.sizes.now ≡ product c.args.sizes.now = omega arith in
    record { fits = lit≤ tt; rest = ap (λ n. min n 18446744073709551615) one }

pub loop-size-preserved : goal.loop-size-preserved
loop-size-preserved c = record {
  fits = omega (arith, c.saturating_mul-product.ensures, min-le_right (c.loop-size.product * c.from.result) 18446744073709551615);
  rest = product-turn c.args.sizes.now c.loop-size.size-index c.loop-size.product c.from.result _ _ _ c.loop-size-test.true c.from.ensures c.saturating_mul-product.ensures c.loop-size.invariant.rest;
}

pub returns : goal.returns
returns c = product-end c.args.sizes.now c.loop-size.size-index c.loop-size.product _ _ c.loop-size-test.false c.loop-size.invariant.fits c.loop-size.invariant.rest
