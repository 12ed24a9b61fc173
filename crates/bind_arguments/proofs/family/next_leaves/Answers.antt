use Rattle.std.proofs.Common.{◌≡◌, ◌∙◌, ◌+◌, ◌-◌, ℕ, suc, set, sym, subst, arith, length}
use Rattle.bind_arguments.proofs.LeafFacts.{AreLeaves, leaf_is, leaf_turn, branch_turn}
use Rattle.bind_arguments.proofs.family.next_leaves.Goals.{then-is_leaf, else-is_leaf}
use Rattle.bind_arguments.proofs.family.next_leaves.Goals as goal

pub loop-done-preserved : goal.loop-done-preserved
loop-done-preserved c =
    let d = c.args.dimension.now in
    let done = c.loop-done.done in
    let e : ℕ = c.len-len.result - 1 - done in
    let at : e + suc done ≡ length d.elements = omega (arith, c.loop-done-test.true, c.len-len.ensures.len) in
    let leaf = leaf_is d e c.is_leaf.result c.is_leaf.ensures in
    elim c.if-is_leaf.branch [
      | then-is_leaf w ↦ subst (λ next. AreLeaves d (done + 1) next (set c.loop-done.leaves.items e c.loop-done.next)) (sym w.next-is)
          (leaf_turn d done e c.loop-done.next c.loop-done.leaves.items c.loop-done.invariant at (sym leaf ∙ w.if-is_leaf.true))
      | else-is_leaf w ↦ subst (λ next. AreLeaves d (done + 1) next (set c.loop-done.leaves.items e c.loop-done.next)) (sym w.next-is)
          (branch_turn d done e c.loop-done.next c.loop-done.leaves.items c.loop-done.invariant at (sym leaf ∙ w.if-is_leaf.false))
    ]
