use Rattle.std.proofs.Common.{◌∙◌, arith, sym, ap, ◌<◌, length, take, ℕ, subst}
use Rattle.cube_space.specs.Radix.{are_digits}
use Rattle.cube_space.specs.Layout.{sizes}
use Rattle.cube_space.specs.Cells.{cube_of}
use Rattle.ref_order.proofs.Axes.{few-axes}
use Rattle.late_example.specs.Inside.Shown.{found_at}
use Rattle.late_example.proofs.Levels.{cell_cube, cell_digits, dim_low, element_low, taken_item, dim_within}
use Rattle.late_example.proofs.Parts.{found_part, none_part}
use Rattle.late_example.proofs.shown.late_component.Goals as goal

pub offset_bounds-at-dim : goal.offset_bounds-at-dim
offset_bounds-at-dim c =
    let few = few-axes c.args.model.now.space (cube_of c.args.model.now.space c.args.cell) c.space-space.ensures.valid (cell_cube c.args.model.now.space c.args.cell c.requires.cell) in
    omega (arith, few, c.requires.dim)

pub bounds-at-dim : goal.bounds-at-dim
bounds-at-dim c =
    let few = few-axes c.args.model.now.space (cube_of c.args.model.now.space c.args.cell) c.space-space.ensures.valid (cell_cube c.args.model.now.space c.args.cell c.requires.cell) in
    omega (arith, few, c.requires.dim)

pub components-parts-requires : goal.components-parts-requires
components-parts-requires c =
    let space = c.args.model.now.space in
    let count = c.place_of-cube.result.1 in
    let at = c.place_of-cube.new.at in
    let low = dim_low space c.args.cell count c.args.dim at c.requires.cell c.place_of-cube.ensures.elements c.requires.dim in
    let digits = ap (λ (k : ℕ). are_digits (sizes space k) (take count at)) c.place_of-cube.ensures.cube
    ∙ ap (are_digits (sizes space (cube_of space c.args.cell))) c.place_of-cube.ensures.elements ∙ cell_digits space c.args.cell c.requires.cell in
    let short : c.args.dim < length (take count at) = subst (λ xs. c.args.dim < length xs) (sym c.place_of-cube.ensures.elements)
    (dim_within space c.args.cell c.args.dim c.requires.cell c.requires.dim) in
    omega (arith, element_low space c.place_of-cube.result.0 c.args.dim (take count at) c.axis.result.now digits short c.axis.ensures.axis, taken_item count at c.args.dim low)

pub component_cell-read-requires-clause-dim : goal.component_cell-read-requires-clause-dim
component_cell-read-requires-clause-dim c =
    dim_low c.args.model.now.space c.args.cell c.place_of-cube.result.1 c.args.dim c.place_of-cube.new.at c.requires.cell c.place_of-cube.ensures.elements c.requires.dim

pub returns-in-Some : goal.returns-in-Some
returns-in-Some c =
    found_part c.args.model.now c.space-space.ensures.valid c.space-space.ensures.rules c.args.cell c.requires.cell c.args.dim c.requires.dim c.place_of-cube.result.0 c.place_of-cube.result.1 c.place_of-cube.new.at c.axis.result.now c.components-parts.result.now
    c.place_of-cube.ensures.cube c.place_of-cube.ensures.elements c.axis.ensures.axis c.components-parts.ensures c.args.sought.position c.each.k c.in-Some.read c.each-test.true
    (sym c.in-Some.is ∙ c.late_only.ensures ∙ ap (found_at c.args.model.now c.args.cell c.args.sought.position) c.component_cell-read.ensures.value)

pub returns : goal.returns
returns c =
    none_part c.args.model.now c.space-space.ensures.valid c.space-space.ensures.rules c.args.cell c.requires.cell c.args.dim c.requires.dim c.place_of-cube.result.0 c.place_of-cube.result.1 c.place_of-cube.new.at c.axis.result.now c.components-parts.result.now
    c.place_of-cube.ensures.cube c.place_of-cube.ensures.elements c.axis.ensures.axis c.components-parts.ensures c.args.sought.position (λ k less. c.each.invariant k (omega (arith, less, c.each-test.false)))
