use Rattle.bind_order.proofs.lag.lag_order.Goals as goal

pub returns-in_ok-totals-clause-valid : goal.returns-in_ok-totals-clause-valid
returns-in_ok-totals-clause-valid c = c.equal_order.ensures.valid c.args.space.now c.args.cube c.in_ok-positions.ensures.few c.in_ok-positions.ensures.each

pub returns-else-lag-clause-valid : goal.returns-else-lag-clause-valid
returns-else-lag-clause-valid c = c.plain_order.ensures.valid c.args.space.now c.args.cube c.in_ok-positions.ensures.few c.in_ok-positions.ensures.each
