use Rattle.std.proofs.Common.{◌∙◌}
use Rattle.feed_map.proofs.RiskFacts.{all-open, at-risk}
use Rattle.feed_map.proofs.risk.at_risk.Goals as goal

pub find_risk-requires-clause-open : goal.find_risk-requires-clause-open
find_risk-requires-clause-open c =
    all-open c.args.model.now c.args.base.now c.args.store.now c.from-reached.result.growth c.follow_cells.new.reached.growth c.args.went.now c.args.went.now c.in_ok-follow_cells.ensures.gains
    (c.from-reached.ensures.known ∙ c.new.ensures) c.from-reached.ensures.opened

pub returns : goal.returns
returns c =
    at-risk c.args.model.now c.args.base.now c.args.store.now c.from-reached.result.growth c.follow_cells.new.reached.growth c.args.went.now c.in_ok-risk.risk.items c.in_ok-follow_cells.ensures.gains
    c.in_ok-risk.ensures
