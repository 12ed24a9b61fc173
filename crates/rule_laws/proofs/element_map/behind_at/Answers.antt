use Rattle.std.proofs.Common.{arith}
use Rattle.rule_laws.specs.Maps.{place_behind}
use Rattle.rule_laws.proofs.MapFacts.{mapped_past, behind_in, behind_out}
use Rattle.rule_laws.proofs.element_map.behind_at.Goals as goal

pub returns-then-element-len : goal.returns-then-element-len
returns-then-element-len c = mapped_past (place_behind c.args.len c.args.places) c.args.len c.args.element (omega (arith, c.if-element-len.true))

pub returns-then-places-len : goal.returns-then-places-len
returns-then-places-len c = behind_in c.args.len c.args.places c.args.element (omega (arith, c.if-element-len.false)) (omega (arith, c.if-places-len.true))

pub returns-else-places-len : goal.returns-else-places-len
returns-else-places-len c = behind_out c.args.len c.args.places c.args.element (omega (arith, c.if-element-len.false)) (omega (arith, c.if-places-len.false, c.if-element-len.false))
