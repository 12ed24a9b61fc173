use Rattle.std.proofs.Common.{◌≡◌, ◌∙◌, sym, ap, subst, true, List}
use Rattle.std.specs.List.{list_any}
use Rattle.std.proofs.lemmas.List.Folds.{list_any_at}
use Rattle.rule_model.specs.declared.rules.CubeRules.{CubeRules}
use Rattle.rule_model.specs.declared.rules.Feeder.{Feeder}
use Rattle.cover_laws.specs.Covered.{feeds_all}
use Rattle.feed_cover.proofs.Covers.{feeder-at}
use Rattle.feed_cover.proofs.feeds.knows_feeder.Goals as goal

pub feeds_all-requires-clause-feeder : goal.feeds_all-requires-clause-feeder
feeds_all-requires-clause-feeder c =
    feeder-at c.args.model.now c.args.own c.args.place c.as_slice-feeders.result.now c.index-feeders-place.result c.space-space.ensures.rules c.requires.own
    (c.as_slice-feeders.ensures ∙ ap (λ (r : CubeRules). r.feeders) c.rules.ensures) c.if-place-feeders.false c.index-feeders-place.is

pub returns-clause-known : goal.returns-clause-known
returns-clause-known c = λ on.
    let test = feeds_all c.args.model.now c.args.view.cube c.args.view.area.now c.args.view.reference.now c.args.own in
    let same = c.as_slice-feeders.ensures ∙ ap (λ (r : CubeRules). r.feeders) c.rules.ensures in
    let passes = ap test (sym c.index-feeders-place.is) ∙ sym c.feeds_all.ensures.feeds ∙ on in
    subst (λ (fs : List Feeder). list_any test fs ≡ true) same
    (list_any_at test c.as_slice-feeders.result.now c.args.place c.index-feeders-place.result c.if-place-feeders.false passes)
