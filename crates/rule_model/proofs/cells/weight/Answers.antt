use Rattle.std.proofs.Common.{rules, ◌≡◌, ◌∙◌, arith}
use Rattle.std.proofs.Common.{w64}
use Rattle.std.proofs.lemmas.Int.{to_z-of_z}
use mir.Val.{SFits}
use Rattle.cube_space.specs.Cells.{cube_of}
use Rattle.cube_space.proofs.Places.{cell-place}
use Rattle.rule_model.proofs.Shapes.{dims_few, digits_found, small_found, weight_is, weight_apart}
use Rattle.rule_model.proofs.cells.weight.Goals as goal

pub returns-then-place-cube-clause-value : goal.returns-then-place-cube-clause-value
returns-then-place-cube-clause-value c =
    let space = c.space-space.ensures.space in
    weight_apart c.args.model.now.space c.args.cell c.args.leaf (λ same. c.if-place-cube.true (search rules))

pub shape-requires : goal.shape-requires
shape-requires c =
    let has = cell-place c.space-space.result.now c.args.cell (rw c.space-space.ensures.space c.requires.cell) in
    rw c.place-cube.ensures.cube has.place.there

pub slice_bounds-at-end : goal.slice_bounds-at-end
slice_bounds-at-end c =
    let few = dims_few c.space-space.result.now c.place-cube.result c.shape.result.now (rw c.space-space.ensures.space c.space-space.ensures.valid) c.shape.ensures in
    search rules

pub slice_bounds-coefficients-end : goal.slice_bounds-coefficients-end
slice_bounds-coefficients-end c =
    let few = dims_few c.space-space.result.now c.place-cube.result c.shape.result.now (rw c.space-space.ensures.space c.space-space.ensures.valid) c.shape.ensures in
    search rules

pub slice_bounds-below-end : goal.slice_bounds-below-end
slice_bounds-below-end c =
    let few = dims_few c.space-space.result.now c.place-cube.result c.shape.result.now (rw c.space-space.ensures.space c.space-space.ensures.valid) c.shape.ensures in
    search rules

pub slice_bounds-coefficients-end-2 : goal.slice_bounds-coefficients-end-2
slice_bounds-coefficients-end-2 c =
    let few = dims_few c.space-space.result.now c.place-cube.result c.shape.result.now (rw c.space-space.ensures.space c.space-space.ensures.valid) c.shape.ensures in
    search rules

pub coefficients-requires-clause-at : goal.coefficients-requires-clause-at
coefficients-requires-clause-at c =
    let seen = c.space-space.ensures.space in
    let own = rw seen at c.place-cube.ensures.cube in
    let upper = rw seen at c.place-cube.ensures.elements in
    let found = rw seen at c.shape.ensures in
    digits_found c.args.model.now.space c.args.cell c.place-cube.result c.shape.result.now c.as_slice-dims.result.now c.place-cube.new.at _ c.space-space.ensures.valid c.requires.cell own found c.as_slice-dims.ensures upper

pub coefficients-requires-clause-below : goal.coefficients-requires-clause-below
coefficients-requires-clause-below c =
    let seen = c.space-space.ensures.space in
    let other : c.place-cube.result ≡ cube_of c.args.model.now.space c.args.leaf = search rules in
    let lower = rw seen at c.place.ensures.elements in
    let found = rw seen at c.shape.ensures in
    digits_found c.args.model.now.space c.args.leaf c.place-cube.result c.shape.result.now c.as_slice-dims.result.now c.place.new.at _ c.space-space.ensures.valid c.requires.leaf other found c.as_slice-dims.ensures lower

pub coefficients-requires-clause-small : goal.coefficients-requires-clause-small
coefficients-requires-clause-small c =
    let seen = c.space-space.ensures.space in
    let own = rw seen at c.place-cube.ensures.cube in
    let found = rw seen at c.shape.ensures in
    small_found c.args.model.now.space c.args.cell c.place-cube.result c.shape.result.now c.as_slice-dims.result.now c.space-space.ensures.products c.requires.cell own found c.as_slice-dims.ensures

pub returns-clause-value : goal.returns-clause-value
returns-clause-value c =
    let seen = c.space-space.ensures.space in
    let own = rw seen at c.place-cube.ensures.cube in
    let other : c.place-cube.result ≡ cube_of c.args.model.now.space c.args.leaf = search rules in
    let upper = rw seen at c.place-cube.ensures.elements in
    let lower = rw seen at c.place.ensures.elements in
    let found = rw seen at c.shape.ensures in
    let fits : SFits w64 c.coefficients.result = search rules in
    to_z-of_z w64 c.coefficients.result fits ∙ c.coefficients.ensures.value
    ∙ weight_is c.args.model.now.space c.args.cell c.args.leaf c.place-cube.result c.shape.result.now c.as_slice-dims.result.now c.place-cube.new.at c.place.new.at _ _ c.space-space.ensures.valid c.requires.cell c.requires.leaf own other found c.as_slice-dims.ensures upper lower

pub returns-clause-size : goal.returns-clause-size
returns-clause-size c =
    let seen = c.space-space.ensures.space in
    let own = rw seen at c.place-cube.ensures.cube in
    let found = rw seen at c.shape.ensures in
    let small = small_found c.args.model.now.space c.args.cell c.place-cube.result c.shape.result.now c.as_slice-dims.result.now c.space-space.ensures.products c.requires.cell own found c.as_slice-dims.ensures in
    let fits : SFits w64 c.coefficients.result = search rules in
    let word = to_z-of_z w64 c.coefficients.result fits in
    let size = c.coefficients.ensures.size in
    rw word (omega (arith, size, small))
