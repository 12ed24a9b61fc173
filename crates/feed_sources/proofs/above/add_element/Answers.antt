use Rattle.std.proofs.Common.{refl, arith, pos, get_or}
use Rattle.feed_sources.proofs.AboveFacts.{added-more}
use Rattle.feed_sources.proofs.above.add_element.Goals as goal

pub each-preserved : goal.each-preserved
each-preserved c =
    added-more c.args.rows.now.items c.each.rows.items c.add.new.rows.items c.args.element c.args.pairs.now c.each.place (get_or c.args.pairs.now c.each.place (0, pos 0)).0 (0, pos 0) c.each-test.true refl
    (omega (arith, c.requires c.each.place (0, pos 0) c.each-test.true, c.each.invariant.whole)) c.each.invariant c.in_ok-add.ensures
