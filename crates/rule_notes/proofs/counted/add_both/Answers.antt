use Rattle.std.proofs.Common.{◌<◌, ◌≤◌, arith, max, length}
use Rattle.rule_notes.proofs.CountedFacts.{both-more, both-done}
use Rattle.rule_notes.proofs.counted.add_both.Goals as goal

pub each-preserved : goal.each-preserved
each-preserved c =
    let low : c.each.k < max (length c.args.leaf.now) (length c.args.cons.now) = omega (arith, c.each-test.true, c.longer-k-end.ensures) in
    both-more c.args.leaf.now c.args.cons.now c.each.k c.each.counted.items c.push.new.self.items c.both_at.result _ low c.in_ok-push.ensures.items c.both_at.ensures.leaf c.both_at.ensures.cons c.each.invariant

pub returns : goal.returns
returns c =
    let past : max (length c.args.leaf.now) (length c.args.cons.now) ≤ c.each.k = omega (arith, c.each-test.false, c.longer-k-end.ensures) in
    both-done c.args.leaf.now c.args.cons.now c.each.k c.each.counted.items _ past c.each.invariant
