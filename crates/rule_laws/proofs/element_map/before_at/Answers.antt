use Rattle.std.proofs.Common.{arith}
use Rattle.rule_laws.specs.Maps.{place_before}
use Rattle.rule_laws.proofs.MapFacts.{mapped_past, before_in, before_out}
use Rattle.rule_laws.proofs.element_map.before_at.Goals as goal

pub returns-then-element-len : goal.returns-then-element-len
returns-then-element-len c = mapped_past (place_before c.args.places) c.args.len c.args.element (omega (arith, c.if-element-len.true))

pub returns-then-element-places : goal.returns-then-element-places
returns-then-element-places c = before_out c.args.len c.args.places c.args.element (omega (arith, c.if-element-len.false)) (omega (arith, c.if-element-places.true))

pub returns-else-element-places : goal.returns-else-element-places
returns-else-element-places c = before_in c.args.len c.args.places c.args.element (omega (arith, c.if-element-len.false)) (omega (arith, c.if-element-places.false))
