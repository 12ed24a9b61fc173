use Rattle.std.proofs.Common.{◌≡◌, ◌∙◌, ap, arith, length, Some}
use Rattle.std.specs.Prelude.{slice_get}
use Rattle.std.proofs.lemmas.Slice.Zip.{AllZip-long}
use Rattle.cube_space.specs.Layout.{Layout}
use Rattle.dim_weights.specs.Table.{IsWeightsOf}
use Rattle.feed_sources.proofs.SourceFacts.{above-one, weights-there}
use Rattle.feed_sources.proofs.source_model.above_of.Goals as goal

pub bounds-weights-dim : goal.bounds-weights-dim
bounds-weights-dim c =
    let dims : c.dimensions-dim-end.result ≡ length c.args.model.now.space.dimensions = c.dimensions-dim-end.ensures ∙ ap (λ (l : Layout). length l.dimensions) c.space-space.ensures.space in
    omega (arith, c.each-test.true, dims, AllZip-long IsWeightsOf c.args.model.now.space.dimensions c.weights.result.now c.weights.ensures)

pub of-requires : goal.of-requires
of-requires c =
    let found : slice_get c.args.model.now.space.dimensions c.each.dim ≡ Some c.dimension.result.now = rw c.space-space.ensures.space at c.dimension.ensures in
    (weights-there c.args.model.now.space.dimensions c.weights.result.now c.each.dim c.dimension.result.now c.index-weights-dim.result c.weights.ensures found).1 c.index-weights-dim.is

pub each-preserved : goal.each-preserved
each-preserved c =
    let found : slice_get c.args.model.now.space.dimensions c.each.dim ≡ Some c.dimension.result.now = rw c.space-space.ensures.space at c.dimension.ensures in
    above-one c.args.model.now.space.dimensions c.each.above.items c.push.new.self.items c.each.dim c.dimension.result.now c.in_ok-of.field-0 c.each.invariant found c.in_ok-of.ensures c.in_ok-push.ensures.items
