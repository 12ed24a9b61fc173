use Rattle.std.proofs.Common.{◌∙◌, sym}
use Rattle.feed_cover.proofs.Asked.{group-some, group-none, group-low}
use Rattle.feed_cover.proofs.feeds.filed_feeds.Goals as goal

pub some_feeds-requires-clause-group : goal.some_feeds-requires-clause-group
some_feeds-requires-clause-group c =
    group-low c.args.model.now c.args.view c.args.own c.requires.view c.requires.counted c.feeders_filed-group.result.now c.args.leaf c.feeders_filed-group.ensures

pub returns-clause-some : goal.returns-clause-some
returns-clause-some c = λ on.
    group-some c.args.model.now c.args.view c.args.own c.requires.view c.requires.counted c.feeders_filed-group.result.now (sym c.some_feeds.ensures.some ∙ on)

pub returns-clause-none : goal.returns-clause-none
returns-clause-none c = λ off.
    group-none c.args.model.now c.args.view c.args.own c.requires.view c.requires.counted c.feeders_filed-group.result.now c.args.leaf c.feeders_filed-group.ensures (sym c.some_feeds.ensures.some ∙ off)
