use Rattle.std.proofs.Common.{rules, ◌≡◌, ◌∙◌, sym, ap, true, length}
use Rattle.std.specs.Prelude.{slice_get}
use Rattle.std.specs.Option.{option_map_or}
use Rattle.cube_space.specs.Layout.{axes}
use Rattle.rule_laws.specs.Maps.{identity}
use Rattle.ref_order.proofs.Axes.{size-of-axis}
use Rattle.cover_laws.specs.Looking.{sent, each_narrow}
use Rattle.cover_laws.specs.Covered.{counts_in, each_sent}
use Rattle.feed_cover.specs.Views.{look_of}
use Rattle.feed_cover.proofs.Kept.{kept-reaches}
use Rattle.feed_cover.proofs.back.reaches_back.Goals as goal

pub returns-then-is_shared : goal.returns-then-is_shared
returns-then-is_shared c =
    let look = look_of c.args.back.model.now c.args.back.view in
    let ds = axes c.args.back.model.now.space c.args.back.view.reference.now.cube in
    let own = axes c.args.back.model.now.space c.args.back.view.cube in
    let to_keeps : c.is_identity-home.result ≡ true = search rules in
    let by_keeps : c.is_identity-there.result ≡ true = search rules in
    let shared : c.is_shared.result ≡ true = search rules in
    let same : slice_get own c.args.back.dim ≡ slice_get ds c.args.back.place = c.is_shared.ensures shared in
    let to_is : c.args.back.to.now ≡ identity (length c.args.back.to.now) = c.is_identity-home.ensures to_keeps in
    let by_is : c.args.back.by.now ≡ identity (length c.args.back.by.now) = c.is_identity-there.ensures by_keeps in
    sym (kept-reaches look c.requires.back.way.is_view.area ds c.args.back.dim c.args.back.place same c.requires.back.way.is_view.valid (length c.args.back.to.now)
    (λ d at. sym (size-of-axis c.args.back.model.now.space c.args.back.view.reference.now.cube c.args.back.place d at) ∙ sym c.requires.back.way.whole) (length c.args.back.by.now))
    ∙ ap (λ to. each_narrow look c.args.back.dim (λ e. option_map_or (each_sent ds c.args.back.place to (λ over. counts_in own c.args.back.dim over e)) (sent (identity (length c.args.back.by.now)) e) true)) (sym to_is)
    ∙ ap (λ by. each_narrow look c.args.back.dim (λ e. option_map_or (each_sent ds c.args.back.place c.args.back.to.now (λ over. counts_in own c.args.back.dim over e)) (sent by e) true)) (sym by_is)
