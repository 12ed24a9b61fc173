use Rattle.std.proofs.Common.{◌≡◌, ◌+◌, ◌-◌, ℕ, suc, arith, length}
use Rattle.bind_arguments.proofs.BelowFacts.{low_element, next_turn, last_turn}
use Rattle.bind_arguments.proofs.marks.elements_below.Goals as goal

pub take_turn-requires-clause-element : goal.take_turn-requires-clause-element
take_turn-requires-clause-element c =
    let order = c.order-order.result.now in
    low_element c.args.dimension.now c.len.ensures.valid c.args.above order c.order-order.ensures (length order - 1 - c.loop-done.done) (omega (arith, c.loop-done-test.true))

pub loop-done-preserved : goal.loop-done-preserved
loop-done-preserved c =
    let order = c.order-order.result.now in
    let place : ℕ = length order - 1 - c.loop-done.done in
    let turn : place + suc c.loop-done.done ≡ length order = omega (arith, c.loop-done-test.true) in
    next_turn c.args.dimension.now c.len.ensures.valid c.args.above order c.order-order.ensures c.loop-done.done place c.loop-done.marks.items c.take_turn.new.marks.items
    c.loop-done.invariant turn c.take_turn.ensures.len c.take_turn.ensures.taken c.take_turn.ensures.passed

pub returns-clause-marks : goal.returns-clause-marks
returns-clause-marks c element low =
    let order = c.order-order.result.now in
    let all : c.loop-done.done ≡ length order = omega (arith, c.loop-done-test.false, c.loop-done.auto.done-end) in
    last_turn c.args.dimension.now c.len.ensures.valid c.args.above order c.order-order.ensures c.loop-done.done c.loop-done.marks.items all c.requires c.loop-done.invariant element
