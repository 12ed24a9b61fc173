use Rattle.std.proofs.Common.{◌∙◌, sym, ap, subst, arith, take, length}
use Rattle.cube_space.specs.Layout.{Layout, axes}
use Rattle.cube_space.specs.Cells.{IsSpace, cube_of}
use Rattle.model_laws.proofs.Placed.{IsPlaced, placed}
use Rattle.sparse_sum.proofs.Placed.{cube-there, cells-of, run-within}
use Rattle.cell_spread.specs.Inside.Counts.{leaf_product}
use Rattle.cell_spread.proofs.Counts.{count-below}
use Rattle.cell_spread.proofs.count.leaf_count.Goals.{After-as_slice-dims}
use Rattle.cell_spread.proofs.count.leaf_count.Goals as goal

here : (c : After-as_slice-dims) → IsPlaced c.args.model.now.space c.args.cell c.place-cube.result c.as_slice-dims.result.now c.place-cube.new.at
here c =
    subst (λ (s : Layout). IsPlaced s c.args.cell c.place-cube.result c.as_slice-dims.result.now c.place-cube.new.at) c.space-space.ensures.space
    (placed c.space-space.result.now c.args.cell c.place-cube.result c.shape.result.now c.as_slice-dims.result.now c.place-cube.new.at _
    (subst IsSpace (sym c.space-space.ensures.space) c.space-space.ensures.valid) (rw c.space-space.ensures.space c.requires) c.place-cube.ensures.cube c.shape.ensures c.as_slice-dims.ensures c.place-cube.ensures.elements)

pub shape-requires : goal.shape-requires
shape-requires c = cube-there c.space-space.result.now c.args.cell c.place-cube.result (rw c.space-space.ensures.space c.requires) c.place-cube.ensures.cube

pub slice_bounds-at-end : goal.slice_bounds-at-end
slice_bounds-at-end c = let p = here (goal.at.slice_bounds-at-end c).After-as_slice-dims in omega (arith, p.few, c.type_inv.at)

pub slice_bounds-leaf_product-end : goal.slice_bounds-leaf_product-end
slice_bounds-leaf_product-end c = (here (goal.at.slice_bounds-leaf_product-end c).After-as_slice-dims).long

pub leaf_product-requires-clause-dims : goal.leaf_product-requires-clause-dims
leaf_product-requires-clause-dims c = (here (goal.at.leaf_product-requires-clause-dims c).After-as_slice-dims).in_range

pub leaf_product-requires-clause-at : goal.leaf_product-requires-clause-at
leaf_product-requires-clause-at c = (here (goal.at.leaf_product-requires-clause-at c).After-as_slice-dims).digits

pub leaf_product-requires-clause-room : goal.leaf_product-requires-clause-room
leaf_product-requires-clause-room c =
    let p = here (goal.at.leaf_product-requires-clause-room c).After-as_slice-dims in
    let cells = cells-of c.args.model.now.space c.args.cell c.place-cube.result c.as_slice-dims.result.now c.place-cube.new.at p in
    let run = run-within c.args.model.now.space c.place-cube.result p.there in
    let size = c.space-space.ensures.valid.size in
    omega (arith, cells, run, size)

pub returns : goal.returns
returns c =
    let p = here (goal.at.returns c).After-as_slice-dims in
    c.leaf_product.ensures.value ∙ ap (λ ds. leaf_product ds (take (length c.as_slice-dims.result.now) c.place-cube.new.at)) p.its_axes
    ∙ ap (leaf_product (axes c.args.model.now.space (cube_of c.args.model.now.space c.args.cell))) p.elements
    ∙ sym (count-below c.args.model.now.space c.space-space.ensures.valid c.args.cell c.requires)
