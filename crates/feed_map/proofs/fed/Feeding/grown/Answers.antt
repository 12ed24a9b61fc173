use Rattle.feed_map.proofs.FedFacts.{within-of, past-of}
use Rattle.feed_map.proofs.fed.Feeding.grown.Goals as goal

pub returns-in_err-reached-clause-within : goal.returns-in_err-reached-clause-within
returns-in_err-reached-clause-within c = within-of c.args.model.now c.args.store.now c.from_residual.result c.in_err-reached.field-0.0 c.from_residual.ensures.1 c.in_err-reached.ensures

pub returns-clause-past : goal.returns-clause-past
returns-clause-past c = past-of c.args.model.now c.args.store.now c.in_ok-reached.reached.growth.known c.in_ok-reached.ensures.0

pub returns-clause-fed : goal.returns-clause-fed
returns-clause-fed c = rw (c.from.ensures.fed, c.from.ensures.totals) (record { fed = c.in_ok-reached.ensures.0.0; opened = c.in_ok-reached.ensures.1 })
