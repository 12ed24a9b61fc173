use Rattle.std.proofs.Common.{◌≡◌, ◌∙◌, ◌<◌, sym, ap, subst, arith, length, Some, Option, false}
use Rattle.std.specs.Prelude.{slice_index_or}
use Rattle.std.specs.Option.{option_map_or}
use Rattle.cube_space.specs.Layout.{axes, sizes}
use Rattle.rule_laws.specs.declared.reference.Arg.TheVariants.{Fixed}
use Rattle.ref_order.proofs.Args.{args-long}
use Rattle.cover_laws.specs.Covered.{reaches_from, reaches}
use Rattle.feed_cover.specs.Views.{look_of}
use Rattle.feed_cover.proofs.Ways.{move-at, fixed-at, some-arg}
use Rattle.feed_cover.proofs.reach.reaches.Goals as goal

pub passes-requires : goal.passes-requires
passes-requires c =
    let low = fixed-at c.args.model.now.space c.args.view.reference.now.cube c.args.target.now c.as_slice.result.now c.args.dim c.in-Fixed.over c.index-as_slice-dim.result c.requires.target c.as_slice.ensures c.requires.dim c.index-as_slice-dim.is c.in-Fixed.is in
    let long = args-long c.args.model.now.space c.args.view.reference.now.cube c.args.target.now c.requires.target in (
      c.requires.view,
      record {
        axis = record { there = c.requires.view.cube; inside = omega (arith, long, c.requires.dim, ap (λ k. length (axes c.args.model.now.space k)) c.requires.cube) };
        within = subst (λ k. c.in-Fixed.over < slice_index_or (sizes c.args.model.now.space k) c.args.dim 0) c.requires.cube low;
      },
    )

pub reaches_from-requires-clause-way : goal.reaches_from-requires-clause-way
reaches_from-requires-clause-way c =
    let move = move-at c.args.model.now.space c.args.view.reference.now.cube c.args.target.now c.as_slice.result.now c.args.dim c.in-Moved.from c.in-Moved.to c.index-as_slice-dim.result c.requires.target c.as_slice.ensures c.requires.dim c.index-as_slice-dim.is c.in-Moved.is in
    record {
      is_view = c.requires.view;
      own = subst (λ k. c.args.dim < length (axes c.args.model.now.space k)) c.requires.cube move.target;
      its = move.followed;
      whole = move.whole;
      sends = λ leaf over sends. subst (λ k. over < slice_index_or (sizes c.args.model.now.space k) c.args.dim 0) c.requires.cube (move.below leaf over sends);
    }

pub reaches_from-requires-clause-place : goal.reaches_from-requires-clause-place
reaches_from-requires-clause-place c =
    let move = move-at c.args.model.now.space c.args.view.reference.now.cube c.args.target.now c.as_slice.result.now c.args.dim c.in-Moved.from c.in-Moved.to c.index-as_slice-dim.result c.requires.target c.as_slice.ensures c.requires.dim c.index-as_slice-dim.is c.in-Moved.is in
    omega (arith, move.followed, args-long c.args.model.now.space c.args.view.cube c.args.view.reference.now c.requires.view.reference)

pub returns-in-Moved-clause-reaches : goal.returns-in-Moved-clause-reaches
returns-in-Moved-clause-reaches c =
    let look = look_of c.args.model.now c.args.view in
    let ds = axes c.args.model.now.space c.args.view.reference.now.cube in
    let move = move-at c.args.model.now.space c.args.view.reference.now.cube c.args.target.now c.as_slice.result.now c.args.dim c.in-Moved.from c.in-Moved.to c.index-as_slice-dim.result c.requires.target c.as_slice.ensures c.requires.dim c.index-as_slice-dim.is c.in-Moved.is in
    let low : c.in-Moved.from < length c.args.view.reference.now.args = omega (arith, move.followed, args-long c.args.model.now.space c.args.view.cube c.args.view.reference.now c.requires.view.reference) in
    let there = some-arg c.args.view.reference.now.args c.in-Moved.from (Fixed 0) low in
    let one = some-arg c.args.target.now.args c.args.dim c.index-as_slice-dim.result c.requires.dim in
    let two = some-arg c.args.target.now.args c.args.dim (Fixed 0) c.requires.dim in
    let arg = same-some (ap (λ xs. slice_index_or xs c.args.dim c.index-as_slice-dim.result) (sym c.as_slice.ensures) ∙ sym c.index-as_slice-dim.is) one two in
    c.reaches_from.ensures.reaches ∙ sym (ap (λ o. option_map_or (reaches_from look ds c.args.dim c.in-Moved.to c.in-Moved.from) o false) there)
    ∙ ap (reaches look ds c.args.dim) (sym c.in-Moved.is ∙ arg)
  where
    same-some : {X : Type 0} {o : Option X} {x y z : X} → x ≡ y → o ≡ Some x → o ≡ Some z → y ≡ z
    same-some e a b = cc
