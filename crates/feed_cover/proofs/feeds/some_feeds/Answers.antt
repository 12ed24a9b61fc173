use Rattle.std.proofs.Common.{rules, ◌≡◌, ◌<◌, ◌∙◌, sym, ap, arith, true, false, length, List, get_or}
use Rattle.std.proofs.lemmas.List.Folds.{list_any_at}
use Rattle.rule_model.specs.declared.filed.FiledFeeder.{FiledFeeder}
use Rattle.rule_model.specs.declared.rules.CubeRules.{CubeRules}
use Rattle.rule_model.specs.declared.rules.Feeder.{Feeder}
use Rattle.feed_cover.specs.Asked.{feeds_at}
use Rattle.feed_cover.proofs.Asked.{at-feeds, any-more}
use Rattle.feed_cover.proofs.feeds.some_feeds.Goals as goal

abbrev none : FiledFeeder
none = record { key = 0; place = 0 }

pub returns-then-feeds_all-clause-some : goal.returns-then-feeds_all-clause-some
returns-then-feeds_all-clause-some c =
    let on : c.feeds_all.result ≡ true = search rules in
    let same = c.as_slice-feeders.ensures ∙ ap (λ (r : CubeRules). r.feeders) c.rules.ensures in
    let low : (get_or c.args.group.now c.each.k none).place < length c.as_slice-feeders.result.now = omega (arith, c.requires.group c.each.k none c.each-test.true, ap (λ (fs : List Feeder). length fs) same) in
    sym (list_any_at (λ (filed : FiledFeeder). feeds_at c.args.model.now c.args.view c.args.own filed.place) c.args.group.now c.each.k none c.each-test.true
    (at-feeds c.args.model.now c.args.view c.args.own c.requires.view c.requires.counted (get_or c.args.group.now c.each.k none).place c.as_slice-feeders.result.now c.index-feeders-place.result same low c.index-feeders-place.is ∙ sym c.feeds_all.ensures.feeds ∙ on))

pub each-preserved : goal.each-preserved
each-preserved c =
    let off : c.feeds_all.result ≡ false = search rules in
    let same = c.as_slice-feeders.ensures ∙ ap (λ (r : CubeRules). r.feeders) c.rules.ensures in
    let low : (get_or c.args.group.now c.each.k none).place < length c.as_slice-feeders.result.now = omega (arith, c.requires.group c.each.k none c.each-test.true, ap (λ (fs : List Feeder). length fs) same) in
    record {
      none = any-more (λ (filed : FiledFeeder). feeds_at c.args.model.now c.args.view c.args.own filed.place) c.args.group.now c.each.k none c.each-test.true
          (at-feeds c.args.model.now c.args.view c.args.own c.requires.view c.requires.counted (get_or c.args.group.now c.each.k none).place c.as_slice-feeders.result.now c.index-feeders-place.result same low c.index-feeders-place.is ∙ sym c.feeds_all.ensures.feeds ∙ off) c.each.invariant.none;
      known = c.feeds_all.ensures.known;
      answers = c.feeds_all.ensures.answers;
    }
