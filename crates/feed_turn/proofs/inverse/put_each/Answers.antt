use Rattle.std.proofs.Common.{◌≡◌, ◌∙◌, pos, true, None, sym, get_or}
use Rattle.std.specs.Prelude.{is_some}
use Rattle.feed_turn.proofs.Pairs.{put-taken}
use Rattle.feed_turn.proofs.inverse.put_each.Goals as goal

pub returns-then-is_some-clause-taken : goal.returns-then-is_some-clause-taken
returns-then-is_some-clause-taken c = λ _.
    let pairs = c.args.pairs.now in
    let k = c.each.pair-index in
    let inside = c.requires.within k (0, pos 0) c.each-test.true in
    let full : is_some (get_or c.each.slots (get_or pairs k (0, pos 0)).0 None) ≡ true = sym c.is_some.ensures ∙ c.if-is_some.true in
    put-taken pairs k (0, pos 0) c.each-test.true c.args.element c.args.slots.now c.each.slots c.each.invariant inside c.requires.rising full
