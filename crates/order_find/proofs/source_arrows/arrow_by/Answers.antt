use Rattle.std.proofs.Common.{◌≡◌, ◌∙◌, ap}
use Rattle.read_sources.specs.Ways.{Same, Component, SentOver, way_of}
use Rattle.order_find.specs.Slots.{arrow_by}
use Rattle.order_find.proofs.source_arrows.arrow_by.Goals as goal

pub returns-in-Itself-clause-arrow : goal.returns-in-Itself-clause-arrow
returns-in-Itself-clause-arrow c =
    let p = c.args.graph.now in
    let s = c.args.source in
    let way : Same ≡ way_of p.model s = c.in-Itself.ensures.follows ∙ ap (λ m. way_of m s) c.model-model.ensures.model in
    c.itself_arrow.ensures.arrow c.args.k ∙ ap (arrow_by p c.args.place c.args.k s) way

pub returns-in-Parts-clause-arrow : goal.returns-in-Parts-clause-arrow
returns-in-Parts-clause-arrow c =
    let p = c.args.graph.now in
    let s = c.args.source in
    let way : Component ≡ way_of p.model s = c.in-Parts.ensures.follows ∙ ap (λ m. way_of m s) c.model-model.ensures.model in
    c.to_parts.ensures.arrow c.args.k ∙ ap (arrow_by p c.args.place c.args.k s) way

pub returns-in-Over-clause-arrow : goal.returns-in-Over-clause-arrow
returns-in-Over-clause-arrow c =
    let p = c.args.graph.now in
    let s = c.args.source in
    let i = c.in-Over.field-0 in
    let to = c.in-Over.field-1.now in
    let way : SentOver i to ≡ way_of p.model s = c.in-Over.ensures.follows ∙ ap (λ m. way_of m s) c.model-model.ensures.model in
    c.to_reached.ensures.arrow i to ∙ ap (arrow_by p c.args.place c.args.k s) way
