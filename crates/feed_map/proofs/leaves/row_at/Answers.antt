use Rattle.std.proofs.Common.{rules, ◌≡◌, ◌∙◌, ap, subst, ◌+◌, ◌<◌, length, take, set, arith}
use Rattle.std.proofs.lemmas.List.{take_more_set, length-take-le}
use Rattle.cube_space.specs.Layout.{Layout}
use Rattle.cube_space.specs.Cells.{IsSpace, cell_number}
use Rattle.feed_map.proofs.RowFacts.{row-told}
use Rattle.feed_map.proofs.leaves.row_at.Goals as goal

pub returns-clause-row : goal.returns-clause-row
returns-clause-row c =
    let long : length c.args.at.now ≡ 16 = search rules in
    let low : c.args.place < length c.args.at.now = omega (arith, c.requires.place, c.rank_of-rank.ensures.few, long) in
    let same = c.space-space.ensures.space in
    let valid = subst IsSpace same c.size-size.ensures.valid in
    row-told c.args.model.now.space c.args.cube c.args.place (take c.args.place c.args.at.now) (take (c.args.place + 1) (set c.args.at.now c.args.place 0)) c.number.result
    valid (omega (arith, c.rank_of-rank.ensures.rank)) (length-take-le c.args.place c.args.at.now (omega (arith, low)))
    (take_more_set c.args.at.now c.args.place 0 low)
    (c.number.ensures.value ∙ ap (λ (l : Layout). cell_number l c.args.cube (take (c.args.place + 1) (set c.args.at.now c.args.place 0))) same)
