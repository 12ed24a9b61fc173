use Rattle.std.proofs.Common.{rules, arith, sym, ap, ◌∙◌, ◌≡◌, ◌+◌, ◌-◌, ◌<◌, length, true, false}
use Rattle.std.proofs.lemmas.Result.{IfOk-weaker}
use Rattle.cell_trace.specs.Inside.Place.{scene_at}
use Rattle.cell_trace.specs.Trace.{reaches_rest, statements}
use Rattle.cell_trace.proofs.ChainFacts.{at-end, at-next, found-alone, found-before, from-least, from-next}
use Rattle.cell_trace.proofs.chain.+chain_from.Goals as goal

pub returns-in_default-clause-chain : goal.returns-in_default-clause-chain
returns-in_default-clause-chain t c =
    at-end c.args.here.now c.args.from c.none.result c.in_default.ensures (c.none.ensures.value ∙ c.in_ok-value.ensures.value) c.none.ensures.own c.none.ensures.entered

pub returns-then-not-reaches_rest-clause-chain : goal.returns-then-not-reaches_rest-clause-chain
returns-then-not-reaches_rest-clause-chain t c =
    let p = c.args.here.now in
    let next = c.in-Some.next in
    let off = sym (c.reaches_rest.ensures ∙ ap reaches_rest c.as_slice.ensures) ∙ c.if-not-reaches_rest.true in
    let found = found-alone p next _ c.in_ok-alone.alone c.in_ok-alone.ensures.found off in
    IfOk-weaker c.with_entered.result _ _ (λ chain at. from-next p c.args.from next chain c.in-Some.ensures at)
    (at-next p next c.in-Some.ensures.part c.in_ok-alone.alone found c.none-later.result (λ on. let clash : false ≡ true = sym off ∙ on in absurd (cc clash))
    c.with_entered.result c.with_entered.ensures.value c.with_entered.ensures.own c.with_entered.ensures.entered)

pub chain_from-requires : goal.chain_from-requires
chain_from-requires t c =
    let least = from-least c.args.here.now c.args.from c.in-Some.next.place c.in-Some.ensures.governs in
    let within = c.in-Some.ensures.part.within in
    let all = length (statements (scene_at c.args.here.now)) in
    let less : all - (c.in-Some.next.place + 1) < all - c.args.from = omega (arith, least, within) in
    search rules

pub returns-clause-chain : goal.returns-clause-chain
returns-clause-chain t c =
    let p = c.args.here.now in
    let next = c.in-Some.next in
    let later = c.in_ok-later.ensures.chain in
    let found = found-before p next c.in_ok-later.later c.in_ok-found.found later c.in_ok-found.ensures.found in
    IfOk-weaker c.with_entered-2.result _ _ (λ chain at. from-next p c.args.from next chain c.in-Some.ensures at)
    (at-next p next c.in-Some.ensures.part c.in_ok-found.found found c.in_ok-later.later (λ _. later)
    c.with_entered-2.result c.with_entered-2.ensures.value c.with_entered-2.ensures.own c.with_entered-2.ensures.entered)
