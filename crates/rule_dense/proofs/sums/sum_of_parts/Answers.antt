use Rattle.std.proofs.Common.{rules, ◌≡◌, ◌<◌, ◌≤◌, ◌+◌, sym, ◌∙◌, ap, arith, ℕ, ℤ, pos, w64, to_z, of_z, get_or, length}
use Rattle.std.proofs.lemmas.Int.{to_z-of_z}
use mir.Val.{SFits}
use Rattle.lists.proofs.Found.{none_found}
use Rattle.cube_fixed.specs.declared.value.Value.{Value}
use Rattle.cube_fixed.specs.Total.{Total, with_term}
use Rattle.rule_dense.specs.Inside.Plain.{table_of}
use Rattle.rule_dense.proofs.LeafSums.{parts-some, parts-none}
use Rattle.rule_dense.proofs.sums.sum_of_parts.Goals as goal
use Rattle.rule_dense.proofs.sums.sum_of_parts.Goals.{in-Some, in_default}

-- a term more, where its weight is told as a word
term : (before after : Total) (z : ℤ) (v w : Value) → SFits w64 z → after ≡ with_term before (to_z w64 (of_z w64 z)) v → v ≡ w → after ≡ with_term before z w
term before after z v w fits is same = is ∙ ap (λ (x : ℤ). with_term before x v) (to_z-of_z w64 z fits) ∙ ap (with_term before z) same

more : (before after sum whole : Total) (z : ℤ) (v : Value) (n : ℕ) → after ≡ with_term before z v → sum ≡ before → before.terms ≤ n → whole ≡ with_term sum z v → (after ≡ whole) × (after.terms ≤ n + 1)
more before after sum whole z v n is same few all =
    (is ∙ ap (λ (t : Total). with_term t z v) (sym same) ∙ sym all, let h : after.terms ≡ before.terms + 1 = ap (λ (t : Total). t.terms) is in omega (arith, h, few))

pub loop-part-preserved : goal.loop-part-preserved
loop-part-preserved c =
    let less : c.loop-part.part-index < length c.args.parts.now = search rules in
    let d : ℕ × ℤ = (0, pos 0) in
    elim c.match-with_element_at.branch [
      | in-Some w ↦
          let fits : SFits w64 (get_or c.args.parts.now c.loop-part.part-index d).1 = search rules in
          let found = sym c.with_element_at.ensures.value ∙ w.in-Some.is in
          let all = parts-some c.args.space.now (table_of c.args.values.now) c.args.cell c.args.dim c.args.parts.now c.loop-part.part-index d less w.in-Some.component found in
          let one = term c.loop-part.sum w.add.new.self (get_or c.args.parts.now c.loop-part.part-index d).1 w.value_at.result (table_of c.args.values.now w.in-Some.component) fits w.add.ensures w.value_at.ensures in
          let both = more c.loop-part.sum c.match-with_element_at.sum _ _ (get_or c.args.parts.now c.loop-part.part-index d).1 (table_of c.args.values.now w.in-Some.component) c.loop-part.part-index (w.sum-is ∙ one) (sym c.loop-part.invariant.sum_is) c.loop-part.invariant.few all in
          record { sum_is = both.0; few = both.1 }
      | in_default w ↦
          let none = parts-none c.args.space.now (table_of c.args.values.now) c.args.cell c.args.dim c.args.parts.now c.loop-part.part-index d less (sym c.with_element_at.ensures.value ∙ none_found c.with_element_at.result w.in_default.not-Some) in
          record { sum_is = w.sum-is ∙ c.loop-part.invariant.sum_is ∙ sym none; few = (let h : c.match-with_element_at.sum.terms ≡ c.loop-part.sum.terms = ap (λ (t : Total). t.terms) w.sum-is in omega (arith, h, c.loop-part.invariant.few)) }
    ]
