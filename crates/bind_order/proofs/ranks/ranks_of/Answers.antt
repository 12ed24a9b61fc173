use Rattle.std.proofs.Common.{◌∙◌, Some, ap, sym, arith, map, drop, length, ◌+◌}
use Rattle.std.specs.List.{range_with_len}
use Rattle.bind_order.specs.Ranks.{rank_of, ranks_of, all_of}
use Rattle.bind_order.proofs.ListFacts.{all_more, all_stops, all_done, next_number, no_number}
use Rattle.bind_order.proofs.RankFacts.{ranks_hold}
use Rattle.bind_order.proofs.ranks.ranks_of.Goals as goal

pub returns-in-None-clause-bound : goal.returns-in-None-clause-bound
unfolding ranks_of
returns-in-None-clause-bound c =
    let n = length c.args.dimension.now.elements in
    all_stops (rank_of c.args.dimension.now c.args.given.now) c.loop-element.ranks.items (drop c.loop-element.element (range_with_len 0 n)) (drop (c.loop-element.element + 1) (range_with_len 0 n)) c.loop-element.element _
    (next_number n c.loop-element.element (omega (arith, c.loop-element-test.true, c.len-element-end.ensures.len))) (sym c.rank_of.ensures ∙ c.in-None.is) c.loop-element.invariant

pub loop-element-preserved : goal.loop-element-preserved
loop-element-preserved c =
    let n = length c.args.dimension.now.elements in
    all_more (rank_of c.args.dimension.now c.args.given.now) c.loop-element.ranks.items c.push.new.self.items (drop c.loop-element.element (range_with_len 0 n)) (drop (c.loop-element.element + 1) (range_with_len 0 n)) c.loop-element.element c.in-Some.rank _
    (next_number n c.loop-element.element (omega (arith, c.loop-element-test.true, c.len-element-end.ensures.len))) (sym c.rank_of.ensures ∙ c.in-Some.is) c.in_ok-push-in-Some.ensures.items c.loop-element.invariant

pub returns-clause-bound : goal.returns-clause-bound
unfolding ranks_of
returns-clause-bound c =
    let n = length c.args.dimension.now.elements in
    ap Some c.new.ensures
    ∙ all_done (rank_of c.args.dimension.now c.args.given.now) c.loop-element.ranks.items (drop c.loop-element.element (range_with_len 0 n)) _
    (no_number n c.loop-element.element (omega (arith, c.loop-element-test.false, c.len-element-end.ensures.len))) c.loop-element.invariant

pub returns-clause-valid : goal.returns-clause-valid
unfolding ranks_of
returns-clause-valid c =
    let n = length c.args.dimension.now.elements in
    ranks_hold c.args.dimension.now c.len-element-end.ensures.valid c.args.given.now c.new.result c.requires.small
    (sym (ap Some c.new.ensures
    ∙ all_done (rank_of c.args.dimension.now c.args.given.now) c.loop-element.ranks.items (drop c.loop-element.element (range_with_len 0 n)) (all_of (map (rank_of c.args.dimension.now c.args.given.now) (range_with_len 0 n)))
    (no_number n c.loop-element.element (omega (arith, c.loop-element-test.false, c.len-element-end.ensures.len))) c.loop-element.invariant))
