use Rattle.std.proofs.Common.{◌∙◌, ◌++◌, ◌∷◌, ◌+◌, [], ap, sym, map, drop, append-nil, append_assoc, arith}
use Rattle.cube_space.specs.Layout.{axes_of, dims_of}
use Rattle.feed_map.specs.Inside.Leaves.{own_leaves}
use Rattle.feed_sources.proofs.Axes.{axes-past}
use Rattle.feed_map.proofs.leaves.leaves_of_cube.Goals as goal

pub each-preserved : goal.each-preserved
each-preserved c =
    let space = c.args.model.now.space in
    let one = c.in_ok-leaves_of_dimension.field-0 in
    let later = map own_leaves (axes_of space.dimensions (drop (c.each.place + 1) (dims_of space c.args.cube))) in
    ap (λ xs. xs ++ later) c.in_ok-push.ensures.items
    ∙ append_assoc c.each.leaves.items (one ∷ []) later
    ∙ ap (λ l. c.each.leaves.items ++ l ∷ later) c.in_ok-leaves_of_dimension.ensures
    ∙ ap (λ ds. c.each.leaves.items ++ map own_leaves ds) (sym c.axis_of.ensures.axis)
    ∙ c.each.invariant

pub returns : goal.returns
returns c =
    let space = c.args.model.now.space in
    let none = axes-past space.dimensions (dims_of space c.args.cube) c.each.place (omega (arith, c.each-test.false, c.rank_of-place-end.ensures.rank)) in
    sym (append-nil c.each.leaves.items) ∙ ap (λ ds. c.each.leaves.items ++ map own_leaves ds) (sym none) ∙ c.each.invariant
