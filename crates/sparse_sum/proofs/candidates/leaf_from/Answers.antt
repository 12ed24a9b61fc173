-- The search in the cube of the cell.
use Rattle.std.proofs.Common.{rules, ◌∙◌, arith, ◌<◌, ◌≤◌, ◌+◌, map, unsigned_abs}
use Rattle.cube_space.specs.Radix.{product}
use Rattle.cube_space.specs.Layout.{axes_of}
use Rattle.cube_space.specs.Cells.{size_of, cube_of}
use Rattle.rule_model.specs.Weights.{greatest_coef, weight_product}
use Rattle.sparse_sum.specs.Inside.First.{IsFirst}
use Rattle.model_laws.proofs.Placed.{IsPlaced, placed}
use Rattle.sparse_sum.proofs.Placed.{cube-there, small-of, none-in, none-past, first-of, cells-of, run-within, word-is}
use Rattle.sparse_sum.proofs.candidates.leaf_from.Goals.{After-as_slice-dims}
use Rattle.sparse_sum.proofs.candidates.leaf_from.Goals as goal

here : (c : After-as_slice-dims) → IsPlaced c.args.space.now c.args.cell c.place-cube.result c.as_slice-dims.result.now c.place-cube.new.at
here c = placed c.args.space.now c.args.cell c.place-cube.result c.shape.result.now c.as_slice-dims.result.now c.place-cube.new.at _ c.size-cells.ensures.valid c.requires.cell c.place-cube.ensures.cube c.shape.ensures c.as_slice-dims.ensures c.place-cube.ensures.elements

small : (c : After-as_slice-dims) → product (map greatest_coef (axes_of c.args.space.now.dimensions c.as_slice-dims.result.now)) ≤ weight_product c.args.space.now (cube_of c.args.space.now c.args.cell)
small c = small-of c.args.space.now c.args.cell c.place-cube.result c.as_slice-dims.result.now c.place-cube.new.at (here c)

pub first-first-requires : goal.first-first-requires
first-first-requires c = cube-there c.args.space.now c.args.cell c.place-cube.result c.requires.cell c.place-cube.ensures.cube

pub cells-cells-requires : goal.cells-cells-requires
cells-cells-requires c = cube-there c.args.space.now c.args.cell c.place-cube.result c.requires.cell c.place-cube.ensures.cube

pub returns-then-begin-cells-clause-first : goal.returns-then-begin-cells-clause-first
returns-then-begin-cells-clause-first c =
    none-past c.args.space.now c.args.cell c.place-cube.result c.requires.cell c.place-cube.ensures.cube c.first-first.result c.cells-cells.result c.args.from c.saturating_sub-begin.result
    c.first-first.ensures c.cells-cells.ensures c.saturating_sub-begin.ensures c.if-begin-cells.true

pub shape-requires : goal.shape-requires
shape-requires c = cube-there c.args.space.now c.args.cell c.place-cube.result c.requires.cell c.place-cube.ensures.cube

pub slice_bounds-at-end : goal.slice_bounds-at-end
slice_bounds-at-end c = let p = here (goal.at.slice_bounds-at-end c).After-as_slice-dims in omega (arith, p.few, c.type_inv.at)

pub slice_bounds-first_leaf-end : goal.slice_bounds-first_leaf-end
slice_bounds-first_leaf-end c =
    let p = here (goal.at.slice_bounds-first_leaf-end c).After-as_slice-dims in
    p.long

pub first_leaf-requires-clause-dims : goal.first_leaf-requires-clause-dims
first_leaf-requires-clause-dims c = (here (goal.at.first_leaf-requires-clause-dims c).After-as_slice-dims).in_range

pub first_leaf-requires-clause-at : goal.first_leaf-requires-clause-at
first_leaf-requires-clause-at c = (here (goal.at.first_leaf-requires-clause-at c).After-as_slice-dims).digits

pub first_leaf-requires-clause-small : goal.first_leaf-requires-clause-small
first_leaf-requires-clause-small c =
    let least = small (goal.at.first_leaf-requires-clause-small c).After-as_slice-dims in
    omega (arith, least, c.requires.product)

pub first_leaf-requires-clause-cells : goal.first_leaf-requires-clause-cells
first_leaf-requires-clause-cells c =
    c.cells-cells.ensures ∙ cells-of c.args.space.now c.args.cell c.place-cube.result c.as_slice-dims.result.now c.place-cube.new.at (here (goal.at.first_leaf-requires-clause-cells c).After-as_slice-dims)

pub overflow_add-result : goal.overflow_add-result
overflow_add-result c =
    let p = here (goal.at.overflow_add-result c).After-as_slice-dims in
    let first : IsFirst _ c.cells-cells.result c.saturating_sub-begin.result (c.in-Some.number, c.in-Some.weight) = c.in-Some.ensures.first in
    let within = first.within in
    let run = run-within c.args.space.now c.place-cube.result p.there in
    let whole : c.first-first.result + c.cells-cells.result ≤ size_of c.args.space.now = omega (arith, run, c.first-first.ensures, c.cells-cells.ensures) in
    let size = c.size-cells.ensures.valid.size in
    let low : c.first-first.result + c.in-Some.number < 18446744073709551616 = omega (arith, within, whole, size) in
    search rules

pub returns-in-Some-clause-first : goal.returns-in-Some-clause-first
returns-in-Some-clause-first c =
    let p = here (goal.at.returns-in-Some-clause-first c).After-as_slice-dims in
    let least = small (goal.at.returns-in-Some-clause-first c).After-as_slice-dims in
    let size = c.in-Some.ensures.size in
    let word = word-is c.in-Some.weight (omega (arith, size, least, c.requires.product)) in
    rw word (first-of c.args.space.now c.args.cell c.place-cube.result c.requires.cell c.place-cube.ensures.cube c.first-first.result c.cells-cells.result c.args.from c.saturating_sub-begin.result
    c.first-first.ensures c.cells-cells.ensures c.saturating_sub-begin.ensures c.as_slice-dims.result.now c.place-cube.new.at p (c.in-Some.number, c.in-Some.weight) c.in-Some.ensures.first)

pub returns-in-Some-clause-size : goal.returns-in-Some-clause-size
returns-in-Some-clause-size c =
    let least = small (goal.at.returns-in-Some-clause-size c).After-as_slice-dims in
    let size = c.in-Some.ensures.size in
    let most : unsigned_abs c.in-Some.weight ≤ 1000000000 = omega (arith, size, least, c.requires.product) in
    let word = word-is c.in-Some.weight most in
    rw word most

pub returns-in-None-clause-first : goal.returns-in-None-clause-first
returns-in-None-clause-first c =
    let p = here (goal.at.returns-in-None-clause-first c).After-as_slice-dims in
    none-in c.args.space.now c.args.cell c.place-cube.result c.requires.cell c.place-cube.ensures.cube c.first-first.result c.cells-cells.result c.args.from c.saturating_sub-begin.result
    c.first-first.ensures c.cells-cells.ensures c.saturating_sub-begin.ensures c.as_slice-dims.result.now c.place-cube.new.at p c.in-None.ensures.first
