use Rattle.std.proofs.Common.{◌≡◌, ◌+◌, ◌-◌, ◌∙◌, sym, ap, arith, length, map, List, [], ◌++◌, Option, None}
use Rattle.std.specs.Prelude.{slice_index_or}
use Rattle.std.proofs.lemmas.List.{length-map, length-append}
use Rattle.least_ranks.specs.declared.arrow.Arrow.{Arrow}
use Rattle.order_find.specs.Slots.{leaf_arrow, leaves_below, source_arrow, group_slots}
use Rattle.order_find.proofs.Held.{held}
use Rattle.read_sources.proofs.Lists.{in-first, in-second, in-third, at-past}
use Rattle.order_find.proofs.arrows.element_arrow.Goals as goal

long : (ls ws os : List (Option Arrow)) → length (ls ++ (ws ++ os)) ≡ length ls + (length ws + length os)
long ls ws os = omega (arith, length-append ls (ws ++ os), length-append ws os)

pub returns-then-slot-leaves-clause-arrow : goal.returns-then-slot-leaves-clause-arrow
returns-then-slot-leaves-clause-arrow c =
    let p = c.args.graph.now in
    let place = c.args.place in
    let by = source_arrow p place in
    let below = leaves_below p.model place in
    let ls = map (leaf_arrow p place.cube) below in
    let ws = map by (slice_index_or p.of_cubes place.cube []) in
    let os = map by (slice_index_or p.of_nodes c.args.node []) in
    let those : c.leaves_below-leaves.result.now ≡ below = c.leaves_below-leaves.ensures.leaves ∙ ap (λ m. leaves_below m place) c.model.ensures.model in
    let leaves : length c.leaves_below-leaves.result.now ≡ length ls = ap length those ∙ sym (length-map below (leaf_arrow p place.cube)) in
    c.row_leaf.ensures.arrow ∙ ap (λ xs. held (map (leaf_arrow p place.cube) xs) c.args.slot) those
    ∙ in-first ls (ws ++ os) c.args.slot None (omega (arith, leaves, c.if-slot-leaves.true))
    ∙ in-first (ls ++ (ws ++ os)) (group_slots p c.args.node place) c.args.slot None (omega (arith, long ls ws os, leaves, c.if-slot-leaves.true))

pub returns-then-slot-whole-clause-arrow : goal.returns-then-slot-whole-clause-arrow
returns-then-slot-whole-clause-arrow c =
    let p = c.args.graph.now in
    let place = c.args.place in
    let by = source_arrow p place in
    let below = leaves_below p.model place in
    let whole = slice_index_or p.of_cubes place.cube [] in
    let ls = map (leaf_arrow p place.cube) below in
    let ws = map by whole in
    let os = map by (slice_index_or p.of_nodes c.args.node []) in
    let leaves : length c.leaves_below-leaves.result.now ≡ length ls =
    ap length (c.leaves_below-leaves.ensures.leaves ∙ ap (λ m. leaves_below m place) c.model.ensures.model) ∙ sym (length-map below (leaf_arrow p place.cube)) in
    let many : length c.of_cube-whole.result.now ≡ length ws = ap length c.of_cube-whole.ensures ∙ sym (length-map whole by) in
    c.row_arrow.ensures.arrow ∙ ap (λ xs. held (map by xs) (c.args.slot - length c.leaves_below-leaves.result.now)) c.of_cube-whole.ensures
    ∙ in-second ls ws os c.args.slot (c.args.slot - length c.leaves_below-leaves.result.now) None (omega (arith, leaves, c.if-slot-leaves.false)) (omega (arith, many, c.if-slot-whole.true))
    ∙ in-first (ls ++ (ws ++ os)) (group_slots p c.args.node place) c.args.slot None (omega (arith, long ls ws os, leaves, many, c.if-slot-leaves.false, c.if-slot-whole.true))

pub returns-then-slot-own-clause-arrow : goal.returns-then-slot-own-clause-arrow
returns-then-slot-own-clause-arrow c =
    let p = c.args.graph.now in
    let place = c.args.place in
    let by = source_arrow p place in
    let below = leaves_below p.model place in
    let whole = slice_index_or p.of_cubes place.cube [] in
    let own = slice_index_or p.of_nodes c.args.node [] in
    let ls = map (leaf_arrow p place.cube) below in
    let ws = map by whole in
    let os = map by own in
    let leaves : length c.leaves_below-leaves.result.now ≡ length ls =
    ap length (c.leaves_below-leaves.ensures.leaves ∙ ap (λ m. leaves_below m place) c.model.ensures.model) ∙ sym (length-map below (leaf_arrow p place.cube)) in
    let many : length c.of_cube-whole.result.now ≡ length ws = ap length c.of_cube-whole.ensures ∙ sym (length-map whole by) in
    let few : length c.of_node-own.result.now ≡ length os = ap length c.of_node-own.ensures ∙ sym (length-map own by) in
    c.row_arrow-then-slot-own.ensures.arrow ∙ ap (λ xs. held (map by xs) (c.args.slot - length c.leaves_below-leaves.result.now - length c.of_cube-whole.result.now)) c.of_node-own.ensures
    ∙ in-third ls ws os c.args.slot (c.args.slot - length c.leaves_below-leaves.result.now - length c.of_cube-whole.result.now) None
    (omega (arith, leaves, many, c.if-slot-leaves.false, c.if-slot-whole.false))
    ∙ in-first (ls ++ (ws ++ os)) (group_slots p c.args.node place) c.args.slot None (omega (arith, long ls ws os, leaves, many, few, c.if-slot-leaves.false, c.if-slot-whole.false, c.if-slot-own.true))

pub returns-clause-arrow : goal.returns-clause-arrow
returns-clause-arrow c =
    let p = c.args.graph.now in
    let place = c.args.place in
    let by = source_arrow p place in
    let below = leaves_below p.model place in
    let whole = slice_index_or p.of_cubes place.cube [] in
    let own = slice_index_or p.of_nodes c.args.node [] in
    let ls = map (leaf_arrow p place.cube) below in
    let ws = map by whole in
    let os = map by own in
    let leaves : length c.leaves_below-leaves.result.now ≡ length ls =
    ap length (c.leaves_below-leaves.ensures.leaves ∙ ap (λ m. leaves_below m place) c.model.ensures.model) ∙ sym (length-map below (leaf_arrow p place.cube)) in
    let many : length c.of_cube-whole.result.now ≡ length ws = ap length c.of_cube-whole.ensures ∙ sym (length-map whole by) in
    let few : length c.of_node-own.result.now ≡ length os = ap length c.of_node-own.ensures ∙ sym (length-map own by) in
    c.arrow_to_group.ensures.arrow
    ∙ sym (at-past (ls ++ (ws ++ os)) (group_slots p c.args.node place) c.args.slot (c.args.slot - length c.leaves_below-leaves.result.now - length c.of_cube-whole.result.now - length c.of_node-own.result.now) None
    (omega (arith, long ls ws os, leaves, many, few, c.if-slot-leaves.false, c.if-slot-whole.false, c.if-slot-own.false)))
