use Rattle.std.proofs.Common.{◌≡◌, ◌∙◌, ◌<◌, ap, sym, subst, ℕ, ℤ, List, length, Result, Ok, Err, OnOk, false, eqb, arith, All}
use Rattle.std.proofs.lemmas.Bool.{eqb-true}
use Rattle.std.proofs.lemmas.Bool.Decides.{nat_tests}
use Rattle.dim_weights.specs.Coefficients.{weighted_sum}
use Rattle.dim_weights.specs.Inside.Sums.{sum_at}
use Rattle.dim_weights.specs.Table.{share, leaves_in}
use Rattle.dim_core.specs.Outline.{IsWeight}
use Rattle.dim_weights.specs.Inside.Rows.{AreMerged}
use Rattle.dim_weights.proofs.StandIns.{same-sum, stood-parts}
use Rattle.dim_weights.proofs.SumFacts.{leaf-sums, parts-sums}
use Rattle.dim_weights.proofs.rows.add_element.Goals as goal

on_ok : {V E : Type 0} (r : Result V E) (P Q : Type 0) → (P → Q) → OnOk r P → OnOk r Q
on_ok (Ok x) P Q f h = f h
on_ok (Err e) P Q f h = tt

pub returns-then-is_empty-clause-counted : goal.returns-then-is_empty-clause-counted
returns-then-is_empty-clause-counted c =
    let none : length c.args.parts.now ≡ 0 = eqb-true (length c.args.parts.now) 0 (sym c.is_empty.ensures ∙ c.if-is_empty.true) in
    on_ok c.add.result _ _ (λ added leaf. ap (λ s. sum_at s leaf) added ∙ leaf-sums c.args.sums.now c.args.rows.now c.args.element c.args.parts.now none c.requires.zero c.requires.within leaf) c.add.ensures.added

pub merged-requires-clause-weights : goal.merged-requires-clause-weights
merged-requires-clause-weights c =
    let are = stood-parts (length c.args.sums.now) c.args.rows.now c.args.alike.now c.args.parts.now c.requires.whole c.requires.same c.requires.parts in
    let P : List (ℕ × ℤ) → Type 0 = λ parts. All (λ part. IsWeight part.1) parts in
    subst P (sym (c.deref.ensures.value ∙ c.in_ok-known.ensures)) (λ k e there. (are.within k e there).1)

pub add_parts-requires-clause-parts : goal.add_parts-requires-clause-parts
add_parts-requires-clause-parts c =
    let are = stood-parts (length c.args.sums.now) c.args.rows.now c.args.alike.now c.args.parts.now c.requires.whole c.requires.same c.requires.parts in
    let P : List (ℕ × ℤ) → Type 0 = λ parts. All (λ part. part.0 < length c.args.sums.now) parts in
    let inside = subst P (sym (c.deref.ensures.value ∙ c.in_ok-known.ensures)) (λ k e there. (are.within k e there).0) in
    let M : List (ℕ × ℤ) → Type 0 = AreMerged (length c.args.sums.now) in
    let made : AreMerged (length c.args.sums.now) c.in_ok-parts.parts.items = record {
      within = c.in_ok-parts.ensures.within (length c.args.sums.now) inside;
      small = c.in_ok-parts.ensures.small;
      few = c.in_ok-parts.ensures.few;
    } in
    subst M (sym c.deref-else-is_empty.ensures.value) made

pub returns-in_ok-parts-clause-counted : goal.returns-in_ok-parts-clause-counted
returns-in_ok-parts-clause-counted c =
    let test : eqb (length c.args.parts.now) 0 ≡ false = sym c.is_empty.ensures ∙ c.if-is_empty.false in
    let some : 0 < length c.args.parts.now = grind (arith, nat_tests) in
    on_ok c.add_parts.result _ _ (λ added leaf.
    let f : ℕ → ℤ = λ part. share (leaves_in c.args.rows.now part) leaf in
    added leaf
    ∙ ap (λ (parts : List (ℕ × ℤ)). weighted_sum f parts) c.deref-else-is_empty.ensures.value
    ∙ c.in_ok-parts.ensures.sum f
    ∙ ap (λ (parts : List (ℕ × ℤ)). weighted_sum f parts) (c.deref.ensures.value ∙ c.in_ok-known.ensures)
    ∙ same-sum c.args.rows.now c.args.alike.now c.args.parts.now c.requires.same leaf
    ∙ parts-sums c.args.rows.now c.args.element c.args.parts.now some leaf) c.add_parts.ensures.added
