use Rattle.std.proofs.Common.{arith}
use Rattle.rule_laws.proofs.MapFacts.{inside, outside}
use Rattle.rule_laws.proofs.element_map.same_below.Goals as goal

pub returns-then-element-len : goal.returns-then-element-len
returns-then-element-len c = inside c.args.len c.args.element (omega (arith, c.if-element-len.true))

pub returns-else-element-len : goal.returns-else-element-len
returns-else-element-len c = outside c.args.len c.args.element (omega (arith, c.if-element-len.false))
