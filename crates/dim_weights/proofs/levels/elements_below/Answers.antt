use Rattle.std.proofs.Common.{sym, ap, ◌∙◌, ◌++◌, ◌∷◌, [], ℕ, List}
use Rattle.dim_weights.proofs.ByLevel.{range-push}
use Rattle.dim_weights.proofs.levels.elements_below.Goals as goal

pub loop-element-preserved : goal.loop-element-preserved
loop-element-preserved c = c.in_ok-push.ensures.items ∙ (ap (λ (xs : List ℕ). xs ++ c.loop-element.element ∷ []) c.loop-element.invariant ∙ sym (range-push c.loop-element.element))
