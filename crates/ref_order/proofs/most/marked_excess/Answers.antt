use Rattle.std.proofs.Common.{◌∙◌, ap, subst, arith, true, false, ◌*◌, ℕ, ℤ, Option}
use Rattle.order_laws.specs.Greatest.{larger}
use Rattle.order_laws.specs.Earlier.{Kinds, of_leaf, greatest_of_kinds, greatest_ending, excess_of_kinds, most_excess}
use Rattle.ref_order.specs.Kinds.{AreNumbers}
use Rattle.ref_order.specs.Reads.{precedent_of}
use Rattle.ref_order.proofs.KindFacts.{within-weaker}
use Rattle.ref_order.proofs.most.marked_excess.Goals as goal

pub excess_reading-requires-clause-sums : goal.excess_reading-requires-clause-sums
excess_reading-requires-clause-sums c =
    let kinds : Kinds = record { own = c.args.kind; its = true } in
    let most = greatest_of_kinds c.args.cells.model.now c.args.cells.cube c.args.cells.area.now kinds c.args.place (precedent_of c.args.read) in
    subst (λ (n : ℕ). AreNumbers c.endings_from-sums.result.leaf.leaf (λ its. greatest_ending most kinds (of_leaf its) 0 n)) c.axis_count-count.ensures.count c.endings_from-sums.ensures.leaf.leaf

pub excess_reading-requires-clause-size : goal.excess_reading-requires-clause-size
excess_reading-requires-clause-size c =
    within-weaker c.endings_from-sums.result.leaf.leaf (c.axis_count-count.result * 1099511627776) 1125899906842624 c.endings_from-sums.ensures.leaf_size.leaf (omega (arith, c.axis_count-count.ensures.few))

pub excess_reading-requires-2-clause-sums : goal.excess_reading-requires-2-clause-sums
excess_reading-requires-2-clause-sums c =
    let kinds : Kinds = record { own = c.args.kind; its = false } in
    let most = greatest_of_kinds c.args.cells.model.now c.args.cells.cube c.args.cells.area.now kinds c.args.place (precedent_of c.args.read) in
    subst (λ (n : ℕ). AreNumbers c.endings_from-sums.result.total.leaf (λ its. greatest_ending most kinds (of_leaf its) 0 n)) c.axis_count-count.ensures.count c.endings_from-sums.ensures.total.leaf

pub excess_reading-requires-2-clause-size : goal.excess_reading-requires-2-clause-size
excess_reading-requires-2-clause-size c =
    within-weaker c.endings_from-sums.result.total.leaf (c.axis_count-count.result * 1099511627776) 1125899906842624 c.endings_from-sums.ensures.total_size.leaf (omega (arith, c.axis_count-count.ensures.few))

pub returns-clause-most : goal.returns-clause-most
unfolding most_excess
returns-clause-most c =
    let excess = λ (its : Rattle.std.proofs.Common.Bool). excess_of_kinds c.args.cells.model.now c.args.cells.cube c.args.cells.area.now (record { own = c.args.kind; its = its }) (precedent_of c.args.read) c.args.place in
    c.larger.ensures.value ∙ ap (λ (x : Option ℤ). larger x c.excess_reading-2.result) c.excess_reading.ensures ∙ ap (larger (excess true)) c.excess_reading-2.ensures
