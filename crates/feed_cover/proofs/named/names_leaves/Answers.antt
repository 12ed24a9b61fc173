use Rattle.std.proofs.Common.{rules, ◌≡◌, ◌∙◌, sym, ap, true, length}
use Rattle.std.specs.Prelude.{slice_get}
use Rattle.cube_space.specs.Layout.{axes}
use Rattle.rule_laws.specs.Maps.{identity}
use Rattle.rule_laws.specs.declared.reference.Arg.TheVariants.{Fixed, Moved}
use Rattle.order_laws.specs.Scales.{is_leaf_element}
use Rattle.cover_laws.specs.Looking.{each_named}
use Rattle.feed_cover.specs.Views.{look_of}
use Rattle.feed_cover.proofs.Ways.{move-at, any-arg}
use Rattle.feed_cover.proofs.Kept.{kept-leaves}
use Rattle.feed_cover.proofs.named.names_leaves.Goals as goal

pub is_shared-requires-clause-dim : goal.is_shared-requires-clause-dim
is_shared-requires-clause-dim c = (move-at c.args.model.now.space c.args.view.cube c.args.view.reference.now c.as_slice.result.now c.args.place c.in-Moved.from c.in-Moved.to c.index-as_slice-place.result c.requires.view.reference c.as_slice.ensures c.requires.place c.index-as_slice-place.is c.in-Moved.is).followed

pub is_shared-requires-clause-place : goal.is_shared-requires-clause-place
is_shared-requires-clause-place c = (move-at c.args.model.now.space c.args.view.cube c.args.view.reference.now c.as_slice.result.now c.args.place c.in-Moved.from c.in-Moved.to c.index-as_slice-place.result c.requires.view.reference c.as_slice.ensures c.requires.place c.index-as_slice-place.is c.in-Moved.is).target

pub returns-in-Moved : goal.returns-in-Moved
returns-in-Moved c =
    let look = look_of c.args.model.now c.args.view in
    let ds = axes c.args.model.now.space c.args.view.reference.now.cube in
    let keeps : c.is_identity.result ≡ true = search rules in
    let shared : c.is_shared.result ≡ true = search rules in
    let same : slice_get (axes c.args.model.now.space c.args.view.cube) c.in-Moved.from ≡ slice_get ds c.args.place = c.is_shared.ensures shared in
    let is : c.in-Moved.to ≡ identity (length c.in-Moved.to) = c.is_identity.ensures keeps in
    let arg = any-arg c.as_slice.result.now c.args.view.reference.now.args c.args.place c.index-as_slice-place.result (Fixed 0) c.as_slice.ensures c.requires.place c.index-as_slice-place.is in
    sym (kept-leaves look c.requires.view.area ds c.in-Moved.from c.args.place same (length c.in-Moved.to))
    ∙ ap (λ to. each_named look (is_leaf_element ds c.args.place) (Moved c.in-Moved.from to)) (sym is)
    ∙ ap (each_named look (is_leaf_element ds c.args.place)) (sym c.in-Moved.is ∙ arg)
