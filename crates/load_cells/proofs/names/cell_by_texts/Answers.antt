use Rattle.std.proofs.Common.{rules}
use Rattle.rule_model.proofs.Shapes.{dims_few, dims_within, shape_dims}
use Rattle.load_cells.proofs.Texts.{by_parts}
use Rattle.load_cells.proofs.names.cell_by_texts.Goals as goal

pub returns-in_default-clause-value : goal.returns-in_default-clause-value
returns-in_default-clause-value c =
    let parts = by_parts c.args.model.now.space c.args.cube.now c.args.elements.now in
    search rules

pub find_elements-requires-clause-dims : goal.find_elements-requires-clause-dims
find_elements-requires-clause-dims c =
    let all = dims_within c.space-space.result.now c.in-Some.cube c.shape.result.now (rw c.space-space.ensures.space c.space-space.ensures.valid) c.shape.ensures in
    search rules

pub find_elements-requires-clause-room : goal.find_elements-requires-clause-room
find_elements-requires-clause-room c =
    let few = dims_few c.space-space.result.now c.in-Some.cube c.shape.result.now (rw c.space-space.ensures.space c.space-space.ensures.valid) c.shape.ensures in
    search rules

pub returns-then-not-branch-clause-value : goal.returns-then-not-branch-clause-value
returns-then-not-branch-clause-value c =
    let dims = shape_dims c.space-space.result.now c.in-Some.cube c.shape.result.now c.shape.ensures in
    let parts = by_parts c.args.model.now.space c.args.cube.now c.args.elements.now in
    search rules

pub split_at-requires : goal.split_at-requires
split_at-requires c =
    let few = dims_few c.space-space.result.now c.in-Some.cube c.shape.result.now (rw c.space-space.ensures.space c.space-space.ensures.valid) c.shape.ensures in
    search rules

pub returns-clause-value : goal.returns-clause-value
returns-clause-value c =
    let dims = shape_dims c.space-space.result.now c.in-Some.cube c.shape.result.now c.shape.ensures in
    let parts = by_parts c.args.model.now.space c.args.cube.now c.args.elements.now in
    search rules
