use Rattle.std.proofs.Common.{◌≡◌, ◌∙◌, refl, sym, ap, subst, arith, pos, rules}
use Rattle.cube_space.specs.Cells.{IsSpace, size_of}
use Rattle.feed_chains.specs.Led.{LeadsToAtMost}
use Rattle.rule_model.specs.BoundModel.{BoundModel}
use Rattle.rule_model.specs.Conditions.{AreRules}
use Rattle.rule_model.specs.System.{system_of}
use Rattle.cell_reader.proofs.Works.{led_waits, small_waits, zero_waits}
use Rattle.cell_reader.proofs.room.room_behind.Goals.{After-space}
use Rattle.cell_reader.proofs.room.room_behind.Goals as goal

valid : (c : After-space) → IsSpace c.args.version.now.model.space
valid c = subst (λ (m : BoundModel). IsSpace m.space) c.model.ensures.model c.space.ensures.valid

bound : (c : After-space) → AreRules c.args.version.now.model.space c.args.version.now.model.rules
bound c = subst (λ (m : BoundModel). AreRules m.space m.rules) c.model.ensures.model c.space.ensures.rules

pub returns-then-millionths-eq0-clause-waits : goal.returns-then-millionths-eq0-clause-waits
returns-then-millionths-eq0-clause-waits c =
    let at = (goal.at.returns-then-millionths-eq0-clause-waits c).After-space in
    let none : c.millionths.result ≡ pos 0 = search rules in
    zero_waits c.args.version.now c.args.waiting.now c.args.room c.args.cell c.args.number c.requires (valid at) (bound at) (sym c.millionths.ensures.value ∙ none)

pub returns-then-size-clause-waits : goal.returns-then-size-clause-waits
returns-then-size-clause-waits c =
    let same : size_of c.space.result.now ≡ size_of c.args.version.now.model.space = ap size_of (c.space.ensures.space ∙ ap (λ (m : BoundModel). m.space) c.model.ensures.model) in
    let one = c.in_ok-stored.ensures in
    small_waits c.args.version.now c.args.waiting.now c.args.room c.args.cell c.args.number c.requires (record { stored = c.in_ok-stored.stored; fed = 0 })
    (omega (arith, one)) refl (omega (arith, c.if-size.true, c.size-size.ensures.size, same))

pub returns-clause-waits : goal.returns-clause-waits
returns-clause-waits c =
    let at = (goal.at.returns-clause-waits c).After-space in
    let own : c.sources.result.now ≡ c.args.version.now.model = c.sources.ensures.model ∙ c.deref.ensures ∙ c.accepted.ensures in
    let leads : LeadsToAtMost (system_of c.args.version.now.model) c.args.cell c.in_ok-led.led =
    subst (λ (m : BoundModel). LeadsToAtMost (system_of m) c.args.cell c.in_ok-led.led) own c.in_ok-led.ensures in
    let one = c.in_ok-stored.ensures in
    let few = c.in_ok-fed.ensures in
    led_waits c.args.version.now c.args.waiting.now c.args.room c.args.cell c.args.number c.requires (valid at) (bound at) (record { stored = c.in_ok-stored.stored; fed = c.in_ok-fed.fed }) c.in_ok-led.led
    (omega (arith, one)) (omega (arith, few)) leads
