use Rattle.std.proofs.Common.{◌≡◌, ◌∙◌, sym, ap, ◌+◌, ◌<◌, Some, List, Option, ℕ, length, get_or, arith}
use Rattle.rule_model.specs.declared.area.Area.{Area}
use Rattle.rule_model.specs.declared.rules.Feeder.{Feeder}
use Rattle.feed_sources.specs.Spans.{sets_at}
use Rattle.feed_sources.proofs.SpanFacts.{sets-there, span-one, span-more}
use Rattle.feed_sources.proofs.spans.span_end.Goals as goal

pub returns-then-next-feeders : goal.returns-then-next-feeders
returns-then-next-feeders c = span-one c.args.feeders.now c.args.place c.requires.place

pub returns-then-not-are_alike : goal.returns-then-not-are_alike
returns-then-not-are_alike c = span-one c.args.feeders.now c.args.place c.requires.place

pub returns : goal.returns
returns c =
    let fs = c.args.feeders.now in
    let place = c.args.place in
    let f = c.index-feeders-place.result in
    let g = c.index-feeders-next.result in
    let next : place + 1 < length fs = omega (arith, c.requires.place, c.if-next-feeders.false) in
    let one : c.get.result.now ≡ f.area = c.get.ensures ∙ ap (λ (x : Feeder). x.area) (sym c.index-feeders-place.is) in
    let other : c.get-2.result.now ≡ g.area = c.get-2.ensures ∙ ap (λ (x : Feeder). x.area) (sym c.index-feeders-next.is) in
    let sets : f.area.sets ≡ g.area.sets = ap (λ (a : Area). a.sets) (sym one) ∙ c.are_alike.ensures c.if-not-are_alike.false ∙ ap (λ (a : Area). a.sets) other in
    let same : sets_at fs place ≡ sets_at fs (place + 1) =
    sets-there fs place f c.requires.place c.index-feeders-place.is ∙ ap (λ (s : List (Option (List ℕ))). Some s) sets ∙ sym (sets-there fs (place + 1) g next c.index-feeders-next.is) in
    span-more fs place (get_or c.args.ends.now (place + 1) 0) same (c.requires.later (place + 1) (omega arith) next)
