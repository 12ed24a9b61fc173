use Rattle.std.proofs.Common.{arith}
use Rattle.rule_notes.proofs.CountedFacts.{kind-more, kind-done}
use Rattle.rule_notes.proofs.counted.add_kind.Goals as goal

pub each-preserved : goal.each-preserved
each-preserved c =
    kind-more c.args.kind c.args.reads.now c.each.k c.index-reads-k.result c.each.counted.items c.push.new.self.items c.of_kind.result _ c.each-test.true c.index-reads-k.is c.in_ok-push.ensures.items c.of_kind.ensures c.each.invariant

pub returns : goal.returns
returns c = kind-done c.args.kind c.args.reads.now c.each.k c.each.counted.items _ (omega (arith, c.each-test.false)) c.each.invariant
