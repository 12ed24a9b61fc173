use Rattle.std.proofs.Common.{◌∙◌, ◌++◌, ◌∷◌, [], ap}
use Rattle.view_query.proofs.Counts.{range_next}
use Rattle.view_query.proofs.sets.all_elements.Goals as goal

pub loop-element-preserved : goal.loop-element-preserved
loop-element-preserved c =
    c.in_ok-push.ensures.items ∙ ap (λ l. l ++ c.loop-element.element ∷ []) c.loop-element.invariant ∙ range_next c.loop-element.element
