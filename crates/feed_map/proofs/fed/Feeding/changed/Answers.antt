use Rattle.feed_map.proofs.FedFacts.{past-of}
use Rattle.feed_map.proofs.fed.Feeding.changed.Goals as goal

pub returns-in-Ok-clause-fed : goal.returns-in-Ok-clause-fed
returns-in-Ok-clause-fed c = rw (c.from.ensures.fed, c.from.ensures.totals) (record { fed = c.in-Ok.ensures.0.0; opened = c.in-Ok.ensures.1 })

pub returns-in-Ok-clause-past : goal.returns-in-Ok-clause-past
returns-in-Ok-clause-past c = past-of c.args.model.now c.args.after.now c.in-Ok.reached.growth.known c.in-Ok.ensures.0
