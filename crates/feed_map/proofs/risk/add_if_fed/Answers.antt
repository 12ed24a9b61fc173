use Rattle.std.proofs.Common.{rules}
use Rattle.feed_map.proofs.RiskFacts.{again-one, again-not}
use Rattle.feed_map.proofs.risk.add_if_fed.Goals as goal

pub returns-in_ok-add : goal.returns-in_ok-add
returns-in_ok-add c =
    let from = c.in_ok-is_fed.ensures.fed (search rules) in
    again-one c.args.model.now c.args.kept.now c.args.cell from c.args.growth.now c.add.new.self c.in_ok-add.ensures.gains

pub returns-else-branch : goal.returns-else-branch
returns-else-branch c =
    let none = c.in_ok-is_fed.ensures.none (search rules) in
    again-not c.args.model.now c.args.kept.now c.args.cell none c.args.growth.now
