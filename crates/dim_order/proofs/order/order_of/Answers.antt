use Rattle.std.proofs.Common.{◌∙◌, sym, subst, List, ℕ}
use Rattle.dim_order.specs.Loops.{IsOrder}
use Rattle.dim_order.proofs.LoopLemmas.{order_from_grown}
use Rattle.dim_order.proofs.Walks.{no_order}
use Rattle.dim_order.proofs.order.order_of.Goals as goal

pub returns-then-len-lists-clause-order : goal.returns-then-len-lists-clause-order
returns-then-len-lists-clause-order c =
    let P : List ℕ → Type 0 = IsOrder c.args.lists.now in
    subst P (sym c.into_list.ensures) (order_from_grown c.args.lists.now c.in_ok-members.members.list c.in_ok-members.ensures.grown (sym c.len.ensures ∙ c.if-len-lists.true))

pub returns-else-len-lists-clause-no_order : goal.returns-else-len-lists-clause-no_order
returns-else-len-lists-clause-no_order c =
    no_order c.args.lists.now c.in_ok-members.members.list c.in_ok-members.ensures.grown c.in_ok-members.ensures.settled c.requires.within (λ e. c.if-len-lists.false (c.len.ensures ∙ e))
