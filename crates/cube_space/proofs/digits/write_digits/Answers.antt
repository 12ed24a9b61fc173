-- A digit is what is left modulo its size, and no size is 0.
use Rattle.std.proofs.Common.{◌≡◌, ◌<◌, ◌-◌, ◌%◌, ◌∙◌, length, arith}
use Rattle.std.proofs.lemmas.Nat.{mod_below}
use Rattle.std.proofs.lemmas.List.{length-set, drop-set-lt}
use Rattle.cube_space.proofs.Radix.{product-positive}
use Rattle.cube_space.proofs.Steps.{write-turn, nothing-left}
use Rattle.cube_space.specs.Radix.{product}
use Rattle.cube_space.proofs.digits.write_digits.Goals as goal

pub nonzero_rem-places : goal.nonzero_rem-places
nonzero_rem-places c =
    let h : c.loop-i.i - 1 < length c.args.sizes.now = omega (arith, c.loop-i-test.true, c.loop-i.auto.i) in
    omega (arith, c.from-size.ensures, product-positive c.args.sizes.now (c.loop-i.i - 1) 0 (omega (arith, c.requires.within)) h)

pub nonzero_div-rest : goal.nonzero_div-rest
nonzero_div-rest c =
    let h : c.loop-i.i - 1 < length c.args.sizes.now = omega (arith, c.loop-i-test.true, c.loop-i.auto.i) in
    omega (arith, c.from-size.ensures, product-positive c.args.sizes.now (c.loop-i.i - 1) 0 (omega (arith, c.requires.within)) h)

pub overflow_cast-places : goal.overflow_cast-places
overflow_cast-places c =
    let h : c.loop-i.i - 1 < length c.args.sizes.now = omega (arith, c.loop-i-test.true, c.loop-i.auto.i) in
    let some : 0 < c.from-size.result = omega (arith, c.from-size.ensures, product-positive c.args.sizes.now (c.loop-i.i - 1) 0 (omega (arith, c.requires.within)) h) in
    omega (arith, mod_below c.loop-i.rest c.from-size.result some, c.from-size.ensures, c.type_inv.sizes (c.loop-i.i - 1))

pub loop-i-preserved : goal.loop-i-preserved
loop-i-preserved c =
    let h : c.loop-i.i - 1 < length c.args.sizes.now = omega (arith, c.loop-i-test.true, c.loop-i.auto.i) in
    let some : 0 < c.from-size.result = omega (arith, c.from-size.ensures, product-positive c.args.sizes.now (c.loop-i.i - 1) 0 (omega (arith, c.requires.within)) h) in
    let digit = c.loop-i.rest % c.from-size.result in
    let written = write-turn c.args.sizes.now c.loop-i.places c.loop-i.i c.loop-i.rest c.args.number c.from-size.result c.loop-i-test.true c.loop-i.auto.i (omega (arith, c.loop-i.invariant.room, c.requires.few)) c.from-size.ensures some c.loop-i.invariant.digits c.loop-i.invariant.number in
    record {
      digits = written.0;
      number = written.1;
      room = length-set c.loop-i.places (c.loop-i.i - 1) digit ∙ c.loop-i.invariant.room;
      others = drop-set-lt (length c.args.sizes.now) c.loop-i.places (c.loop-i.i - 1) digit h ∙ c.loop-i.invariant.others;
    }

pub returns-clause-number : goal.returns-clause-number
returns-clause-number c =
    let none : c.loop-i.i ≡ 0 = omega (arith, c.loop-i-test.false) in
    nothing-left c.loop-i.rest (product c.args.sizes.now) _ c.args.number (rw none at c.loop-i.invariant.number) c.requires.within
