use Rattle.std.proofs.Common.{arith}
use Rattle.feed_map.proofs.Fresh.{rises-on}
use Rattle.feed_map.proofs.growth.is_rising.Goals as goal

pub each-init : goal.each-init
each-init c = record {
  some = omega arith;
  rising = λ k low. absurd (omega (arith, low));
}

pub each-preserved : goal.each-preserved
each-preserved c = record {
  some = omega arith;
  rising = rises-on c.args.cells.now c.each.place c.each.invariant.some c.each.invariant.rising (omega arith);
}

pub returns : goal.returns
returns c = λ always k low. c.each.invariant.rising k (omega (arith, low))
