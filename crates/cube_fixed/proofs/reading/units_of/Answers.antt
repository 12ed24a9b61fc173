use Rattle.std.proofs.Common.{arith}
use Rattle.cube_fixed.proofs.Decimals.{digits_value-step}
use Rattle.cube_fixed.proofs.reading.units_of.Goals as goal

pub loop-digit-preserved : goal.loop-digit-preserved
loop-digit-preserved c =
    let step = digits_value-step c.args.digits.now c.loop-digit.digit-index c.requires c.loop-digit-test.true in
    omega (arith, step)
