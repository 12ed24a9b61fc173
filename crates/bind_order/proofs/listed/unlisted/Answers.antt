use Rattle.std.proofs.Common.{◌∙◌, ◌++◌, ◌∷◌, [], ap, sym, arith, None}
use Rattle.std.proofs.lemmas.List.FromFn.{map-range_with_len_more}
use Rattle.bind_order.specs.Ranks.{listed_rank}
use Rattle.bind_order.proofs.listed.unlisted.Goals as goal

pub loop-element-preserved : goal.loop-element-preserved
loop-element-preserved c =
    c.in_ok-push.ensures.items ∙ ap (λ l. l ++ None ∷ []) c.loop-element.invariant
    ∙ sym (map-range_with_len_more (listed_rank c.args.dimension.now []) 0 c.loop-element._element c.loop-element._element (omega arith))
