use Rattle.std.proofs.Common.{◌≡◌, ◌∙◌, ap, [], get_or, Some}
use Rattle.std.specs.Prelude.{slice_get}
use Rattle.cube_space.specs.Layout.{Layout, dims_of}
use Rattle.feed_sources.proofs.Axes.{shape-dims, axes-from}
use Rattle.feed_sources.proofs.SourceFacts.{weights-there}
use Rattle.feed_map.proofs.leaves.axis_of.Goals.{After-dimension, After-weights}
use Rattle.feed_map.proofs.leaves.axis_of.Goals as goal

-- the numbers of the cube's dimensions, and the dimension at the place
same : (c : After-dimension) → c.as_slice.result.now ≡ dims_of c.args.model.now.space c.args.cube
same c =
    c.as_slice.ensures ∙ shape-dims c.space-space.result.now c.args.cube c.shape.result.now c.shape.ensures
    ∙ ap (λ (l : Layout). dims_of l c.args.cube) c.space-space.ensures.space

found : (c : After-dimension) → slice_get c.args.model.now.space.dimensions (get_or c.as_slice.result.now c.args.place 0) ≡ Some c.dimension.result.now
found c = rw c.space-space.ensures.space at c.dimension.ensures

pub bounds-weights-dim : goal.bounds-weights-dim
bounds-weights-dim c =
    let own = found (goal.at.bounds-weights-dim c).After-dimension in
    (weights-there c.args.model.now.space.dimensions c.weights.result.now (get_or c.as_slice.result.now c.args.place 0) c.dimension.result.now [] c.weights.ensures own).0

pub returns-clause-axis : goal.returns-clause-axis
returns-clause-axis c =
    let own = found (goal.at.returns-clause-axis c).After-dimension in
    let dims = same (goal.at.returns-clause-axis c).After-dimension in
    axes-from c.args.model.now.space.dimensions (dims_of c.args.model.now.space c.args.cube) c.args.place c.dimension.result.now c.requires.place (rw dims at own)

pub returns-clause-weights : goal.returns-clause-weights
returns-clause-weights c =
    let own = found (goal.at.returns-clause-weights c).After-dimension in
    (weights-there c.args.model.now.space.dimensions c.weights.result.now (get_or c.as_slice.result.now c.args.place 0) c.dimension.result.now c.index-weights-dim.result c.weights.ensures own).1 c.index-weights-dim.is
