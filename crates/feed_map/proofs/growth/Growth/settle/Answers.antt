use Rattle.std.proofs.Common.{◌∙◌, ap, arith, ◌<◌, ◌≤◌, length, ◌++◌}
use Rattle.feed_map.specs.FedCells.{most_fed}
use Rattle.feed_map.proofs.GainFacts.{gains-settle, stops-settle}
use Rattle.feed_map.proofs.growth.Growth.settle.Goals as goal

pub returns-then-len-clause-stops : goal.returns-then-len-clause-stops
returns-then-len-clause-stops c =
    let union = rw c.deref.ensures.value at c.in_ok-self.ensures in
    let past : most_fed < length c.in_ok-self.field-0 = omega (arith, c.if-len.true, c.len.ensures) in
    stops-settle c.args.self.now (record { alloc = c.args.self.now.alloc; known = c.in_ok-self.field-0; opened = c.extend_from_slice.new.self; found = c.clear.new.self; finds = c.args.self.now.finds })
    c.in_ok-fresh.fresh.items c.in_ok-fresh.ensures union past

pub returns-clause-gains : goal.returns-clause-gains
returns-clause-gains c =
    let union = rw c.deref.ensures.value at c.in_ok-self.ensures in
    let low : length c.in_ok-self.field-0 ≤ most_fed = omega (arith, c.if-len.false, c.len.ensures) in
    gains-settle c.args.self.now (record { alloc = c.args.self.now.alloc; known = c.in_ok-self.field-0; opened = c.extend_from_slice.new.self; found = c.clear.new.self; finds = c.args.self.now.finds })
    c.in_ok-fresh.fresh.items c.next_from-first.ensures.rising c.in_ok-fresh.ensures union
    (c.in_ok-extend_from_slice.ensures.items ∙ ap (λ xs. c.args.self.now.opened.items ++ xs) c.deref-2.ensures.value) c.clear.ensures.items low
