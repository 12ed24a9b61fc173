use Rattle.std.proofs.Common.{arith}
use Rattle.check_order.proofs.TopFacts.{top-is, top-small-enough}
use Rattle.check_order.proofs.height.position_size.Goals as goal

pub returns-clause-value : goal.returns-clause-value
returns-clause-value c = omega (arith, c.top.ensures.value, top-is c.args.model.now c.top.ensures.valid c.top.ensures.rules c.args.place)

pub returns-clause-small : goal.returns-clause-small
returns-clause-small c = omega (arith, c.top.ensures.value, top-small-enough c.args.model.now c.top.ensures.valid c.top.ensures.rules c.args.place)
