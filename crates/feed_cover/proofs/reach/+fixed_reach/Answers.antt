use Rattle.std.proofs.Common.{◌<◌, ap, subst, arith, length}
use Rattle.std.specs.Prelude.{slice_index_or}
use Rattle.cube_space.specs.Layout.{axes, sizes}
use Rattle.ref_order.proofs.Args.{args-long, fixed-below, arg-low}
use Rattle.feed_cover.proofs.reach.+fixed_reach.Goals as goal

pub passes-requires : goal.passes-requires
passes-requires t c =
    let low : c.args.dim < length c.args.target.now.args = arg-low c.args.dim c.as_slice-args.result.now c.args.target.now.args c.as_slice-args.ensures c.if-dim-args.false c.requires.dim in
    let below = fixed-below c.args.model.now.space c.args.view.reference.now.cube c.args.target.now c.as_slice-args.result.now c.args.dim c.in-Fixed.over c.index-args-dim.result c.requires.target c.as_slice-args.ensures low c.index-args-dim.is c.in-Fixed.is in
    let long = args-long c.args.model.now.space c.args.view.reference.now.cube c.args.target.now c.requires.target in (
      c.requires.view,
      record {
        axis = record { there = c.requires.view.cube; inside = omega (arith, long, low, ap (λ k. length (axes c.args.model.now.space k)) c.requires.cube) };
        within = subst (λ k. c.in-Fixed.over < slice_index_or (sizes c.args.model.now.space k) c.args.dim 0) c.requires.cube below;
      },
    )
