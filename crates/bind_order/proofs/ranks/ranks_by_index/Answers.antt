use Rattle.std.proofs.Common.{◌≡◌, ◌∙◌, ◌++◌, ◌∷◌, [], ap, sym, subst, arith, map, length}
use Rattle.std.specs.List.{range_with_len}
use Rattle.std.proofs.lemmas.List.FromFn.{map-range_with_len_more, length-map-range_with_len}
use Rattle.bind_order.specs.Ranks.{greatest_leaf, index_rank, index_ranks, ranks_by_index}
use Rattle.bind_order.specs.Inside.Held.{AreHeldRanks}
use Rattle.bind_order.proofs.ListedFacts.{index_within}
use Rattle.bind_order.proofs.RankFacts.{index_hold}
use Rattle.bind_order.proofs.ranks.ranks_by_index.Goals as goal

pub greatest_counted-requires-clause-whole : goal.greatest_counted-requires-clause-whole
greatest_counted-requires-clause-whole c =
    ap length (c.deref.ensures.value ∙ c.in_ok-given.ensures.given) ∙ length-map-range_with_len (index_rank c.args.dimension.now) 0 (length c.args.dimension.now.elements)

pub loop-element-preserved : goal.loop-element-preserved
loop-element-preserved c =
    let d = c.args.dimension.now in
    c.in_ok-push.ensures.items ∙ ap (λ l. l ++ c.greatest_counted.result ∷ []) c.loop-element.invariant
    ∙ ap (λ rank. map (greatest_leaf d (index_ranks d)) (range_with_len 0 c.loop-element.element) ++ rank ∷ []) (c.greatest_counted.ensures ∙ ap (λ given. greatest_leaf d given c.loop-element.element) (c.deref.ensures.value ∙ c.in_ok-given.ensures.given))
    ∙ sym (map-range_with_len_more (greatest_leaf d (index_ranks d)) 0 c.loop-element.element c.loop-element.element (omega arith))

pub returns-clause-bound : goal.returns-clause-bound
unfolding ranks_by_index
returns-clause-bound c =
    let d = c.args.dimension.now in
    let end : c.loop-element.element ≡ length d.elements = omega (arith, c.loop-element-test.false, c.len-element-end.ensures.len, c.loop-element.auto.element-end) in
    c.new.ensures ∙ c.loop-element.invariant ∙ ap (λ n. map (greatest_leaf d (index_ranks d)) (range_with_len 0 n)) end

pub returns-clause-valid : goal.returns-clause-valid
unfolding ranks_by_index
returns-clause-valid c =
    let d = c.args.dimension.now in
    let end : c.loop-element.element ≡ length d.elements = omega (arith, c.loop-element-test.false, c.len-element-end.ensures.len, c.loop-element.auto.element-end) in
    let is = c.new.ensures ∙ c.loop-element.invariant ∙ ap (λ n. map (greatest_leaf d (index_ranks d)) (range_with_len 0 n)) end in
    subst (AreHeldRanks d) (sym is) (index_hold d c.len-element-end.ensures.valid (index_within d c.len-element-end.ensures.valid))
