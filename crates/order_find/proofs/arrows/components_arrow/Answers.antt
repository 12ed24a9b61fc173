use Rattle.std.proofs.Common.{◌≡◌, ◌∙◌, sym, ap, List, ℕ, ℤ}
use Rattle.rule_model.specs.BoundModel.{BoundModel}
use Rattle.order_find.specs.Slots.{parts_of, part_arrow}
use Rattle.order_find.proofs.Held.{held, mapped-held, mapped-past}
use Rattle.order_find.proofs.arrows.components_arrow.Goals as goal

pub returns-then-slot-parts-clause-arrow : goal.returns-then-slot-parts-clause-arrow
returns-then-slot-parts-clause-arrow c =
    let p = c.args.graph.now in
    let place = c.args.place in
    let by = part_arrow p place c.args.totals in
    let parts = c.parts_of-parts.result.now in
    let same : parts ≡ parts_of p.model.space place = c.parts_of-parts.ensures.parts ∙ ap (λ (m : BoundModel). parts_of m.space place) c.model.ensures.model in
    c.part_arrow.ensures.arrow ∙ mapped-held by parts c.args.slot _ c.if-slot-parts.true ∙ ap (λ (xs : List (ℕ × ℤ)). held (Rattle.std.specs.Prelude.map by xs) c.args.slot) same

pub returns-clause-arrow : goal.returns-clause-arrow
returns-clause-arrow c =
    let p = c.args.graph.now in
    let place = c.args.place in
    let by = part_arrow p place c.args.totals in
    let parts = c.parts_of-parts.result.now in
    let same : parts ≡ parts_of p.model.space place = c.parts_of-parts.ensures.parts ∙ ap (λ (m : BoundModel). parts_of m.space place) c.model.ensures.model in
    sym (mapped-past by parts c.args.slot c.if-slot-parts.false) ∙ ap (λ (xs : List (ℕ × ℤ)). held (Rattle.std.specs.Prelude.map by xs) c.args.slot) same
