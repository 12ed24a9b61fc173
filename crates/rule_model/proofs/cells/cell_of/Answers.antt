use Rattle.std.proofs.Common.{rules}
use Rattle.rule_model.specs.Named.{cell_named}
use Rattle.rule_model.proofs.Shapes.{dims_within, dims_few, shape_dims}
use Rattle.rule_model.proofs.cells.cell_of.Goals as goal

pub returns-in_default-clause-value : goal.returns-in_default-clause-value
unfolding cell_named
returns-in_default-clause-value c = search rules

pub find_elements-requires-clause-dims : goal.find_elements-requires-clause-dims
find_elements-requires-clause-dims c =
    let all = dims_within c.space-space.result.now c.in-Some.cube c.shape.result.now (rw c.space-space.ensures.space c.space-space.ensures.valid) c.shape.ensures in
    search rules

pub find_elements-requires-clause-room : goal.find_elements-requires-clause-room
find_elements-requires-clause-room c =
    let few = dims_few c.space-space.result.now c.in-Some.cube c.shape.result.now (rw c.space-space.ensures.space c.space-space.ensures.valid) c.shape.ensures in
    search rules

pub returns-then-not-find_elements-clause-value : goal.returns-then-not-find_elements-clause-value
unfolding cell_named
returns-then-not-find_elements-clause-value c =
    let dims = shape_dims c.space-space.result.now c.in-Some.cube c.shape.result.now c.shape.ensures in
    search rules

pub split_at-requires : goal.split_at-requires
split_at-requires c =
    let few = dims_few c.space-space.result.now c.in-Some.cube c.shape.result.now (rw c.space-space.ensures.space c.space-space.ensures.valid) c.shape.ensures in
    search rules

pub returns-clause-value : goal.returns-clause-value
unfolding cell_named
returns-clause-value c =
    let dims = shape_dims c.space-space.result.now c.in-Some.cube c.shape.result.now c.shape.ensures in
    search rules
