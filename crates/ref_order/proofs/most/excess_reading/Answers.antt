use Rattle.std.proofs.Common.{◌∙◌, sym, ap, arith, length, ℕ, ℤ, Option, Some}
use Rattle.cube_space.specs.Layout.{axes}
use Rattle.order_laws.specs.Greatest.{plus}
use Rattle.order_laws.specs.Earlier.{Kinds, of_leaf, start_by_kinds, greatest_ending}
use Rattle.ref_order.specs.Areas.{numbers_reading, ending_reading}
use Rattle.ref_order.specs.Known.{kinds_asked}
use Rattle.ref_order.specs.Reads.{precedent_of}
use Rattle.ref_order.proofs.Args.{size-weaker}
use Rattle.ref_order.proofs.KindFacts.{number-is}
use Rattle.ref_order.proofs.most.excess_reading.Goals as goal

pub plus-requires-clause-right : goal.plus-requires-clause-right
plus-requires-clause-right c = size-weaker c.number_for.result 1125899906842624 1152921504606846976 (c.number_for.ensures.size 1125899906842624 c.requires.size) (omega arith)

pub returns : goal.returns
returns c =
    let cells = c.args.cells in
    let asked = c.args.asked in
    let count = length (axes cells.model.now.space cells.cube) in
    let ending = λ (before : Kinds) (dim : ℕ). greatest_ending (numbers_reading cells asked asked.its) (kinds_asked asked) before dim count in
    let leaves = c.names_leaves-leaves.result in
    let sum = c.number_for.ensures.value ∙ number-is c.args.sums (λ its. ending_reading cells asked asked.its count (of_leaf its)) c.requires.sums leaves ∙ ap (ending (of_leaf leaves)) c.requires.dim ∙ ap (λ (before : Kinds). ending before 0) (sym c.names_leaves-leaves.ensures) in
    c.plus.ensures.value ∙ ap (λ (n : Option ℤ). plus n c.number_for.result) c.start-start.ensures.value ∙ ap (plus (Some (start_by_kinds cells.model.now cells.cube (kinds_asked asked) asked.place (precedent_of asked.read)))) sum
