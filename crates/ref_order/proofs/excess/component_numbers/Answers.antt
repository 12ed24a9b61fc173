use Rattle.std.proofs.Common.{◌≡◌, ◌∙◌, sym, ap, arith, pos, slice_index_or, length, Bool, ℕ, ℤ, List, []}
use Rattle.std.specs.Option.{option_map_or}
use Rattle.dim_core.specs.Outline.{components_of}
use Rattle.cube_space.specs.Layout.{axes}
use Rattle.order_laws.specs.Greatest.{greatest}
use Rattle.order_laws.specs.Scales.{parts_in}
use Rattle.order_laws.specs.Earlier.{component_number, components_number}
use Rattle.ref_order.specs.Known.{kinds_asked}
use Rattle.ref_order.proofs.Args.{component-below}
use Rattle.ref_order.proofs.KindFacts.{numbers-more, numbers-same}
use Rattle.ref_order.proofs.excess.component_numbers.Goals as goal

pub component_number-requires-clause-element : goal.component_number-requires-clause-element
component_number-requires-clause-element c =
    component-below c.args.model.now.space c.args.cube c.args.asked.dim c.args.element c.each.k c.axis.result.now c.components-parts.result.now c.axis.ensures.valid c.axis.ensures.axis c.components-parts.ensures c.each-test.true

pub each-preserved : goal.each-preserved
each-preserved c =
    let number = λ (leaf : Bool) (k : ℕ). component_number c.args.model.now c.args.cube (kinds_asked c.args.asked) c.args.asked.place c.args.asked.dim c.args.element leaf (slice_index_or c.components-parts.result.now k (0, pos 0)) in record {
      numbers = numbers-more c.component_number.result c.each.best c.larger_numbers-best.result number c.each.k (c.component_number.ensures.numbers c.args.element c.worth-worth.ensures) c.each.invariant.numbers c.larger_numbers-best.ensures.numbers;
      size = c.larger_numbers-best.ensures.size 1099511627776 c.component_number.ensures.size c.each.invariant.size;
    }

pub returns-clause-numbers : goal.returns-clause-numbers
returns-clause-numbers c =
    let model = c.args.model.now in
    let dim = c.args.asked.dim in
    let e = c.args.element in
    let parts : List (ℕ × ℤ) = c.components-parts.result.now in
    let all : parts ≡ parts_in (axes model.space c.args.cube) dim e = c.components-parts.ensures ∙ ap (λ d. option_map_or (λ d. components_of d e) d []) (sym c.axis.ensures.axis) in
    let done : c.each.k ≡ length parts = omega (arith, c.each.auto.k-end, c.each-test.false) in
    let number = λ (leaf : Bool) (ps : List (ℕ × ℤ)) (k : ℕ). component_number model c.args.cube (kinds_asked c.args.asked) c.args.asked.place dim e leaf (slice_index_or ps k (0, pos 0)) in
    numbers-same c.each.best (λ leaf. greatest (number leaf parts) c.each.k) (λ leaf. components_number model c.args.cube (kinds_asked c.args.asked) c.args.asked.place dim e leaf (parts_in (axes model.space c.args.cube) dim e)) c.each.invariant.numbers
    (λ leaf. ap (greatest (number leaf parts)) done ∙ ap (λ (ps : List (ℕ × ℤ)). greatest (number leaf ps) (length ps)) all)
