use Rattle.std.proofs.Common.{◌≡◌, refl, sym, true, false, Bool, rules}
use Rattle.std.specs.List.{list_any}
use Rattle.rule_model.specs.BoundModel.{rules_of}
use Rattle.feed_cover.specs.Asked.{feeds}
use Rattle.feed_cover.proofs.Asked.{all-none}
use Rattle.feed_cover.proofs.feeds.feeds_from.Goals as goal

pub returns-clause-feeds : goal.returns-clause-feeds
returns-clause-feeds c =
    let off : c.feeds_by_leaf.result ≡ false = search rules in
    by c.filed_feeds.result (λ on. c.filed_feeds.ensures.some on)
    (λ no. all-none c.args.model.now c.args.view c.args.own c.requires.view c.requires.counted (c.feeds_by_leaf.ensures.none off) (c.filed_feeds.ensures.none no))
  where
    by : (b : Bool) → (b ≡ true → list_any (feeds c.args.model.now c.args.view c.args.own) (rules_of c.args.model.now c.args.own).feeders ≡ true)
        → (b ≡ false → list_any (feeds c.args.model.now c.args.view c.args.own) (rules_of c.args.model.now c.args.own).feeders ≡ false) → b ≡ list_any (feeds c.args.model.now c.args.view c.args.own) (rules_of c.args.model.now c.args.own).feeders
    by true some none = sym (some refl)
    by false some none = sym (none refl)
