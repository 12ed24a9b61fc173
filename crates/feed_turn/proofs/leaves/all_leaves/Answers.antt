use Rattle.std.proofs.Common.{◌∙◌, ◌++◌, ◌∷◌, [], ℕ, List, ap, sym, filter}
use Rattle.cube_space.specs.Cells.{is_leaf}
use Rattle.feed_turn.proofs.Ranges.{filter-next}
use Rattle.feed_turn.proofs.leaves.all_leaves.Goals as goal

pub each-preserved : goal.each-preserved
each-preserved c =
    let p = is_leaf c.args.dimension.now in
    c.in_ok-push_leaf.ensures ∙ ap (λ (xs : List ℕ). xs ++ filter p (c.each.element ∷ [])) c.each.invariant ∙ sym (filter-next p c.each.element)
