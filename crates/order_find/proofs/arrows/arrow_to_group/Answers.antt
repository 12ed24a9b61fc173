use Rattle.std.proofs.Common.{◌≡◌, ◌∙◌, ◌-◌, sym, ap, arith, length, map, [], None}
use Rattle.std.specs.Prelude.{slice_index_or}
use Rattle.std.proofs.lemmas.List.{length-map}
use Rattle.order_find.specs.Slots.{group_arrow}
use Rattle.order_find.proofs.Held.{held}
use Rattle.read_sources.proofs.Lists.{in-first, at-past}
use Rattle.order_find.proofs.arrows.arrow_to_group.Goals as goal

pub returns-then-slot-whole-clause-arrow : goal.returns-then-slot-whole-clause-arrow
returns-then-slot-whole-clause-arrow c =
    let p = c.args.graph.now in
    let whole = slice_index_or p.groups_of_cubes c.args.place.cube [] in
    let own = slice_index_or p.groups_of_nodes c.args.node [] in
    let by = group_arrow p c.args.place in
    let many : length c.groups_of_cube-whole.result.now ≡ length (map by whole) = ap length c.groups_of_cube-whole.ensures ∙ sym (length-map whole by) in
    c.row_group.ensures.arrow ∙ ap (λ xs. held (map by xs) c.args.slot) c.groups_of_cube-whole.ensures
    ∙ in-first (map by whole) (map by own) c.args.slot None (omega (arith, many, c.if-slot-whole.true))

pub returns-clause-arrow : goal.returns-clause-arrow
returns-clause-arrow c =
    let p = c.args.graph.now in
    let whole = slice_index_or p.groups_of_cubes c.args.place.cube [] in
    let own = slice_index_or p.groups_of_nodes c.args.node [] in
    let by = group_arrow p c.args.place in
    let many : length c.groups_of_cube-whole.result.now ≡ length (map by whole) = ap length c.groups_of_cube-whole.ensures ∙ sym (length-map whole by) in
    c.row_group-2.ensures.arrow ∙ ap (λ xs. held (map by xs) (c.args.slot - length c.groups_of_cube-whole.result.now)) c.groups_of_node.ensures
    ∙ sym (at-past (map by whole) (map by own) c.args.slot (c.args.slot - length c.groups_of_cube-whole.result.now) None (omega (arith, many, c.if-slot-whole.false)))
