use Rattle.std.proofs.Common.{◌≡◌, ◌∙◌, ◌-◌, nat_lt, false, sym, ap, arith}
use Rattle.std.specs.Prelude.{if◌then◌else◌}
use Rattle.std.proofs.lemmas.Bool.{le-ltb}
use Rattle.rule_laws.specs.Maps.{behind, before}
use Rattle.feed_print.proofs.Maps.{stays}
use Rattle.feed_print.proofs.moves.shift.Goals as goal

pub returns-then-from-to : goal.returns-then-from-to
returns-then-from-to c =
    let from = c.args.from in
    let to = c.args.to in
    let size = c.args.size in
    let none : to - from ≡ 0 = omega (arith, c.if-from-to.true) in
    let not_less : nat_lt to from ≡ false = le-ltb to from (omega (arith, c.if-from-to.true)) in
    c.identity.ensures ∙ stays size ∙ ap (behind size) (sym none)
    ∙ sym (ap (λ b. if b then before size (from - to) else behind size (to - from)) not_less)
