-- The number of the digits so far is no more than the whole, which is below the product.
use Rattle.std.proofs.Common.{◌<◌, length, arith, get_or, refl}
use Rattle.cube_space.proofs.Radix.{number-below, digits-length}
use Rattle.cube_space.proofs.Steps.{number-so_far}
use Rattle.cube_space.proofs.digits.number_of.Goals as goal

pub overflow_mul-number : goal.overflow_mul-number
overflow_mul-number c =
    let count = digits-length c.args.sizes.now c.args.digits.now c.requires.digits in
    let below = number-below c.args.sizes.now c.args.digits.now c.requires.digits in
    let h : c.loop-i.i < length c.args.sizes.now = omega (arith, c.loop-i-test.true) in
    let so_far = number-so_far c.args.sizes.now c.args.digits.now c.loop-i.i c.loop-i.number _ c.from.result (get_or c.args.digits.now c.loop-i.i 0) c.from.ensures refl h (omega (arith, count, h)) c.loop-i.invariant.digits c.loop-i.invariant.number in
    omega (arith, so_far, below, c.requires.fits, c.from.ensures)

pub overflow_add-number : goal.overflow_add-number
overflow_add-number c =
    let count = digits-length c.args.sizes.now c.args.digits.now c.requires.digits in
    let below = number-below c.args.sizes.now c.args.digits.now c.requires.digits in
    let h : c.loop-i.i < length c.args.sizes.now = omega (arith, c.loop-i-test.true) in
    let so_far = number-so_far c.args.sizes.now c.args.digits.now c.loop-i.i c.loop-i.number _ c.from.result (get_or c.args.digits.now c.loop-i.i 0) c.from.ensures refl h (omega (arith, count, h)) c.loop-i.invariant.digits c.loop-i.invariant.number in
    omega (arith, so_far, below, c.requires.fits, c.from.ensures, c.from-in-loop-i.ensures)
