use Rattle.std.proofs.Common.{◌≡◌, sym, true, arith}
use Rattle.dim_order.specs.Loops.{lies_on_loop}
use Rattle.dim_order.proofs.LoopLemmas.{first_on_loop-first, first_on_loop-free}
use Rattle.dim_order.proofs.loops.first_on_loop.Goals as goal

pub returns-then-branch : goal.returns-then-branch
returns-then-branch c =
    let here : lies_on_loop c.args.lists.now c.loop-element.element ≡ true = cc (c.in_ok-is_level_on_loop.ensures) in
    sym (first_on_loop-first c.args.lists.now c.loop-element.element c.loop-element-test.true c.loop-element.invariant here)

pub returns : goal.returns
returns c = sym (first_on_loop-free c.args.lists.now (λ k there. c.loop-element.invariant k (omega (arith, c.loop-element-test.false))))
