use Rattle.std.proofs.Common.{◌≡◌, ◌∙◌, ◌++◌, ◌∷◌, [], ap, sym, subst, arith, map, length}
use Rattle.std.specs.List.{range_with_len}
use Rattle.std.proofs.lemmas.List.FromFn.{map-range_with_len_more}
use Rattle.rule_model.specs.Conditions.{AreRanks}
use Rattle.bind_order.specs.Ranks.{filled_rank}
use Rattle.bind_order.proofs.RankFacts.{filled-are}
use Rattle.bind_order.proofs.ranks.all_filled.Goals as goal

pub loop-element-preserved : goal.loop-element-preserved
loop-element-preserved c =
    let rank = filled_rank c.args.dimension.now c.args.given.now in
    c.in_ok-push.ensures.items ∙ ap (λ l. l ++ c.filled_rank.result ∷ []) c.loop-element.invariant
    ∙ ap (λ r. map rank (range_with_len 0 c.loop-element.element) ++ r ∷ []) c.filled_rank.ensures
    ∙ sym (map-range_with_len_more rank 0 c.loop-element.element c.loop-element.element (omega arith))

pub returns-clause-valid : goal.returns-clause-valid
returns-clause-valid c =
    let d = c.args.dimension.now in
    let end : c.loop-element.element ≡ length d.elements = omega (arith, c.loop-element-test.false, c.len-element-end.ensures.len, c.loop-element.auto.element-end) in
    let is = c.new.ensures ∙ c.loop-element.invariant ∙ ap (λ n. map (filled_rank d c.args.given.now) (range_with_len 0 n)) end in
    subst (AreRanks d) (sym is) (filled-are d c.args.given.now c.requires.small)
