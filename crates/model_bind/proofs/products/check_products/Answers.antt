use Rattle.std.proofs.Common.{arith}
use Rattle.rule_model.specs.Weights.{weight_product}
use Rattle.model_bind.proofs.SmallProducts.{min-small, min-large, product-refused, product-passed, products-passed, small-more}
use Rattle.model_bind.proofs.products.check_products.Goals as goal

pub returns-then-weight_product-gt-MAX_WEIGHT_PRODUCT-clause-answered : goal.returns-then-weight_product-gt-MAX_WEIGHT_PRODUCT-clause-answered
returns-then-weight_product-gt-MAX_WEIGHT_PRODUCT-clause-answered c =
    let space = c.args.space.now in
    let cube = c.loop-cube.cube in
    let big = min-large (weight_product space cube) 18446744073709551615 1000000000 (omega (arith, c.weight_product.ensures, c.if-weight_product-gt-MAX_WEIGHT_PRODUCT.true)) in
    product-refused c.args.places.now space cube c.in_model.result (omega (arith, c.loop-cube-test.true, c.cubes-cube-end.ensures)) big (rw c.place_of.ensures at c.in_model.ensures) c.loop-cube.invariant.rest

pub loop-cube-preserved : goal.loop-cube-preserved
loop-cube-preserved c =
    let space = c.args.space.now in
    let cube = c.loop-cube.cube in
    let small = min-small (weight_product space cube) 18446744073709551615 1000000000 (omega arith) (omega (arith, c.weight_product.ensures, c.if-weight_product-gt-MAX_WEIGHT_PRODUCT.false)) in
    record {
      small = small-more c.args.places.now space cube c.loop-cube.invariant.small small;
      rest = product-passed c.args.places.now space cube (omega (arith, c.loop-cube-test.true, c.cubes-cube-end.ensures)) small c.loop-cube.invariant.rest;
    }

pub returns-clause-answered : goal.returns-clause-answered
returns-clause-answered c = products-passed c.args.places.now c.args.space.now c.loop-cube.cube (omega (arith, c.loop-cube-test.false, c.cubes-cube-end.ensures)) c.loop-cube.invariant.rest
