use Rattle.std.proofs.Common.{rules, ◌≡◌, sym, ◌∙◌, ap, ℤ, pos, w64, to_z, of_z, Bool, true, false}
use Rattle.std.proofs.lemmas.Int.{to_z-of_z}
use mir.Val.{SFits}
use Rattle.cube_fixed.specs.declared.value.Value.{Value}
use Rattle.cube_fixed.specs.Total.{with_term}
use Rattle.cube_space.specs.Layout.{Layout}
use Rattle.cube_space.specs.Cells.{is_leaf_cell}
use Rattle.rule_model.specs.Weights.{weight}
use Rattle.rule_dense.specs.Inside.Plain.{table_of}
use Rattle.rule_dense.proofs.LeafSums.{added-some, added-none, added-other}
use Rattle.rule_dense.proofs.sums.add_leaf.Goals.{After-is_leaf}
use Rattle.rule_dense.proofs.sums.add_leaf.Goals as goal

-- whether the cell is a leaf cell of the model's space
kind : (c : After-is_leaf) (b : Bool) → c.is_leaf.result ≡ b → is_leaf_cell c.args.model.now.space c.args.leaf ≡ b
kind c b is = ap (λ (s : Layout). is_leaf_cell s c.args.leaf) (sym c.space.ensures.space) ∙ sym c.is_leaf.ensures ∙ is

pub returns-then-weight-ne0-clause-sum : goal.returns-then-weight-ne0-clause-sum
returns-then-weight-ne0-clause-sum c =
    let fits : SFits w64 c.weight-weight.result = search rules in
    let counted : weight c.args.model.now.space c.args.cell c.args.leaf ≡ pos 0 → ⊥ = λ zero. c.if-weight-ne0.true (ap (of_z w64) (c.weight-weight.ensures.value ∙ zero)) in
    c.add.ensures
    ∙ ap (λ (z : ℤ). with_term c.args.sum.now z c.value_at.result) (to_z-of_z w64 c.weight-weight.result fits ∙ c.weight-weight.ensures.value)
    ∙ ap (λ (v : Value). with_term c.args.sum.now (weight c.args.model.now.space c.args.cell c.args.leaf) v) c.value_at.ensures
    ∙ sym (added-some c.args.model.now.space (table_of c.args.values.now) c.args.cell c.args.sum.now c.args.leaf (kind (goal.at.returns-then-weight-ne0-clause-sum c).After-is_leaf true c.if-is_leaf.true) counted)

pub returns-else-weight-ne0-clause-sum : goal.returns-else-weight-ne0-clause-sum
returns-else-weight-ne0-clause-sum c =
    let fits : SFits w64 c.weight-weight.result = search rules in
    let zero : c.weight-weight.result ≡ pos 0 = sym (to_z-of_z w64 c.weight-weight.result fits) ∙ ap (to_z w64) c.if-weight-ne0.false in
    sym (added-none c.args.model.now.space (table_of c.args.values.now) c.args.cell c.args.sum.now c.args.leaf (sym c.weight-weight.ensures.value ∙ zero))

pub returns-else-is_leaf-clause-sum : goal.returns-else-is_leaf-clause-sum
returns-else-is_leaf-clause-sum c =
    sym (added-other c.args.model.now.space (table_of c.args.values.now) c.args.cell c.args.sum.now c.args.leaf (kind (goal.at.returns-else-is_leaf-clause-sum c).After-is_leaf false c.if-is_leaf.false))
