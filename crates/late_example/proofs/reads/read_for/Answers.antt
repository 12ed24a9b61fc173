use Rattle.std.proofs.Common.{◌∙◌, sym, ap, refl, map, Bool}
use Rattle.std.specs.Prelude.{option_and_then}
use Rattle.ref_order.specs.Counted.{counted_of}
use Rattle.ref_order.specs.Reads.{precedent_of}
use Rattle.late_example.specs.Example.{at_number, read_for}
use Rattle.late_example.specs.Inside.Counting.{comes_second}
use Rattle.late_example.proofs.Counting.{leaf_read, cons_read}
use Rattle.late_example.proofs.reads.read_for.Goals as goal

pub returns-then-kind : goal.returns-then-kind
returns-then-kind c =
    let s = c.args.statement.now in
    c.pick.ensures
    ∙ leaf_read s c.args.reference _ c.count_before.result c.deref.result.now c.deref-then-kind.result.now c.comes_second-second.result c.if-reference-eq0.false refl
    (ap (map precedent_of) c.deref.ensures.value ∙ c.in_ok-leaf.ensures) (ap (map precedent_of) c.deref-then-kind.ensures.value ∙ c.in_ok-cons.ensures)
    (c.comes_second-second.ensures ∙ ap (comes_second s.form) c.if-kind.true) c.count_before.ensures
    ∙ sym (ap (λ (k : Bool). option_and_then (λ it. read_for it k) (at_number (counted_of s) c.args.reference)) c.if-kind.true)

pub returns : goal.returns
returns c =
    let s = c.args.statement.now in
    c.pick-else-kind.ensures
    ∙ cons_read s c.args.reference _ c.count_before-else-kind.result c.deref-else-kind.result.now c.deref-else-kind-2.result.now c.comes_second-second.result c.if-reference-eq0.false refl
    (ap (map precedent_of) c.deref-else-kind.ensures.value ∙ c.in_ok-cons.ensures) (ap (map precedent_of) c.deref-else-kind-2.ensures.value ∙ c.in_ok-leaf.ensures)
    (c.comes_second-second.ensures ∙ ap (comes_second s.form) c.if-kind.false) c.count_before-else-kind.ensures
    ∙ sym (ap (λ (k : Bool). option_and_then (λ it. read_for it k) (at_number (counted_of s) c.args.reference)) c.if-kind.false)
