use Rattle.std.proofs.Common.{◌∙◌, ◌++◌, ◌∷◌, [], ℕ, List, ap, sym, filter, false, get_or}
use Rattle.feed_turn.proofs.Ranges.{filter-next}
use Rattle.feed_turn.proofs.named.marked.Goals as goal

pub each-preserved : goal.each-preserved
each-preserved c =
    c.in_ok-push_marked.ensures ∙ ap (λ (xs : List ℕ). xs ++ filter (λ e. get_or c.args.marks.now e false) (c.each.element ∷ [])) c.each.invariant
    ∙ sym (filter-next (λ e. get_or c.args.marks.now e false) c.each.element)
