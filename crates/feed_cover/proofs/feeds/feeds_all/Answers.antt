use Rattle.std.proofs.Common.{rules, ◌≡◌, ◌∙◌, sym, ap, true, false, ◌==◌}
use Rattle.std.proofs.lemmas.Bool.{eq-eqb}
use Rattle.cube_space.specs.Layout.{axes}
use Rattle.cover_laws.specs.Looking.{all_named}
use Rattle.cover_laws.specs.Covered.{look_below, are_sources, all_reach, feeds_all}
use Rattle.feed_cover.proofs.Covers.{look-leaves, all-hold, none-holds}
use Rattle.feed_cover.proofs.feeds.feeds_all.Goals as goal

pub returns-clause-feeds : goal.returns-clause-feeds
unfolding feeds_all
returns-clause-feeds c =
    let r = c.args.view.reference.now in
    let ds = axes c.args.model.now.space r.cube in
    let leaves = look-leaves c.args.model.now c.args.view c.requires.counted in
    let look = look_below c.args.model.now c.args.view.cube c.args.view.area.now r in
    let own : c.args.own ≡ r.cube = search rules in
    let its : c.args.feeder.now.target.cube ≡ c.args.view.cube = search rules in
    let on : c.reaches_all.result ≡ true = search rules in
    let reach = ap (λ l. all_reach l ds 0 c.args.feeder.now.target.args) (sym leaves) ∙ sym c.reaches_all.ensures.reach ∙ on in
    (rw c.get.ensures at c.has_sources.ensures.sources) ∙ ap (λ l. all_named l (are_sources ds c.args.feeder.now.area.sets) 0 r.args) leaves
    ∙ all-hold (c.args.own == r.cube) (c.args.feeder.now.target.cube == c.args.view.cube) (all_named look (are_sources ds c.args.feeder.now.area.sets) 0 r.args) (all_reach look ds 0 c.args.feeder.now.target.args)
    (eq-eqb _ _ own) (eq-eqb _ _ its) reach

pub returns-then-not-reaches_all-clause-feeds : goal.returns-then-not-reaches_all-clause-feeds
unfolding feeds_all
returns-then-not-reaches_all-clause-feeds c =
    let r = c.args.view.reference.now in
    let ds = axes c.args.model.now.space r.cube in
    let leaves = look-leaves c.args.model.now c.args.view c.requires.counted in
    let look = look_below c.args.model.now c.args.view.cube c.args.view.area.now r in
    let off : c.reaches_all.result ≡ false = search rules in
    let reach = c.reaches_all.ensures.reach ∙ ap (λ l. all_reach l ds 0 c.args.feeder.now.target.args) leaves in
    sym off ∙ reach ∙ none-holds (c.args.own == r.cube) (c.args.feeder.now.target.cube == c.args.view.cube) (all_named look (are_sources ds c.args.feeder.now.area.sets) 0 r.args) (all_reach look ds 0 c.args.feeder.now.target.args) (sym reach ∙ off)
