use Rattle.std.proofs.Common.{◌<◌, sym, subst}
use Rattle.std.specs.Prelude.{slice_index_or}
use Rattle.cube_space.specs.Layout.{sizes}
use Rattle.order_laws.specs.Scales.{set_count}
use Rattle.ref_order.proofs.Sums.{element-below}
use Rattle.feed_cover.proofs.set.element_in.Goals as goal

pub returns-clause-within : goal.returns-clause-within
returns-clause-within c =
    let short = subst (λ s. c.args.k < set_count (slice_index_or (sizes c.args.model.now.space c.args.view.cube) c.args.dim 0) s) (sym c.set.ensures) c.requires.there in
    subst (λ n. n < slice_index_or (sizes c.args.model.now.space c.args.view.cube) c.args.dim 0) (sym c.element_at.ensures)
    (element-below c.args.model.now.space c.args.view.cube c.args.dim c.args.k c.args.view.area.now c.set.result.now c.requires.view.area c.set.ensures short)
