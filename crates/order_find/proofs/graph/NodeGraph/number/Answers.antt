use Rattle.std.proofs.Common.{◌≡◌, ◌<◌, ◌∙◌, ap, arith, length}
use Rattle.std.specs.Prelude.{slice_index_or}
use Rattle.std.proofs.lemmas.Option.{slice_get_within}
use Rattle.order_find.specs.Numbers.{count_of, firsts_of, number_of}
use Rattle.order_find.specs.Slots.{Plan}
use Rattle.order_find.proofs.graph.NodeGraph.number.Goals as goal

pub first_of-requires-clause-firsts : goal.first_of-requires-clause-firsts
first_of-requires-clause-firsts c =
    let plan = c.model-model.ensures.plan in
    omega (arith, plan.numbering.firsts, c.requires.cube, ap (λ (p : Plan). length p.numbering.firsts.items) c.self.view_is)

pub first_of-requires-clause-totals : goal.first_of-requires-clause-totals
first_of-requires-clause-totals c =
    let plan = c.model-model.ensures.plan in
    omega (arith, plan.numbering.totals, c.requires.cube, ap (λ (p : Plan). length p.numbering.totals.items) c.self.view_is)

pub returns-clause-within : goal.returns-clause-within
returns-clause-within c =
    let plan = c.model-model.ensures.plan in
    let numbering = c.args.self.now.numbering in
    let number = number_of numbering c.args.place in
    let low : number < count_of numbering = slice_get_within numbering.places.items number c.args.place (plan.numbering.there c.args.place c.requires) in
    let same : c.self.inside.numbering ≡ numbering = ap (λ (p : Plan). p.numbering) c.self.view_is in
    let first : c.first_of.result ≡ slice_index_or (firsts_of numbering c.args.place.kind) c.args.place.cube 0 =
    c.first_of.ensures ∙ ap (λ n. slice_index_or (firsts_of n c.args.place.kind) c.args.place.cube 0) same in
    omega (arith, low, first)

pub overflow_add-result : goal.overflow_add-result
overflow_add-result c = let low = returns-clause-within (record c {}) in omega (arith, low, c.model-model.ensures.plan.few)
