use Rattle.std.proofs.Common.{◌≡◌, ◌∙◌, ◌++◌, ◌∷◌, [], ap, sym, subst, arith, map, length}
use Rattle.std.specs.List.{range_with_len}
use Rattle.std.proofs.lemmas.List.FromFn.{map-range_with_len_more}
use Rattle.bind_order.specs.Ranks.{index_rank}
use Rattle.bind_order.specs.Inside.Given.{AreWithin}
use Rattle.bind_order.proofs.ListedFacts.{index_within}
use Rattle.bind_order.proofs.listed.index_ranks.Goals as goal

pub loop-element-preserved : goal.loop-element-preserved
loop-element-preserved c =
    c.in_ok-push.ensures.items ∙ ap (λ l. l ++ c.index_rank.result ∷ []) c.loop-element.invariant
    ∙ ap (λ o. map (index_rank c.args.dimension.now) (range_with_len 0 c.loop-element.element) ++ o ∷ []) c.index_rank.ensures ∙ sym (map-range_with_len_more (index_rank c.args.dimension.now) 0 c.loop-element.element c.loop-element.element (omega arith))

pub returns-clause-small : goal.returns-clause-small
returns-clause-small c =
    let end : c.loop-element.element ≡ length c.args.dimension.now.elements = omega (arith, c.loop-element-test.false, c.len-element-end.ensures.len, c.loop-element.auto.element-end) in
    let is = c.loop-element.invariant ∙ ap (λ n. map (index_rank c.args.dimension.now) (range_with_len 0 n)) end in
    subst AreWithin (sym is) (index_within c.args.dimension.now c.len-element-end.ensures.valid)
