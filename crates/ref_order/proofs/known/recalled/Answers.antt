use Rattle.std.proofs.Common.{sym, subst}
use Rattle.std.proofs.lemmas.List.Elements.{All-get_or}
use Rattle.ref_order.specs.Known.{IsRight, AreRight}
use Rattle.ref_order.proofs.known.recalled.Goals as goal

pub returns-then-ask_alike : goal.returns-then-ask_alike
returns-then-ask_alike c =
    λ area right.
    let model = c.args.model.now in
    let cube = c.args.cube in
    let found = c.in_ok-answer.ensures.lookup in
    let answer = c.in_ok-answer.answer.now in
    let all = subst (AreRight model cube area) (sym c.deref.ensures.value) right in
    let is = subst (IsRight model cube area) (sym found.1) (All-get_or (IsRight model cube area) c.deref.result.now c.in_ok-place.field-0.now answer found.3.0 all) in
    (c.ask_alike.ensures c.if-ask_alike.true area answer.numbers is.numbers, is.size)
