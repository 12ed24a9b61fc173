-- The values on a version of an accepted model.
use Rattle.std.proofs.Common.{◌≡◌, sym, ◌∙◌, ap, ℕ, suc, ℤ, Bool, true, false, drop, Some, None}
use Rattle.accepted.specs.Checks.{IsAccepted}
use Rattle.cell_store.specs.Entries.{cells_of, number_at}
use Rattle.cell_versions.specs.Versions.{NumberedVersion}
use Rattle.cube_fixed.specs.declared.value.Value.{Value}
use Rattle.cube_fixed.specs.declared.value.Value.TheVariants.{Num}
use Rattle.cube_fixed.specs.Arithmetic.{zero_value}
use Rattle.cube_space.specs.Cells.{IsSpace, IsCell, is_leaf_cell}
use Rattle.dim_order.specs.Members.{is_among}
use Rattle.feed_map.specs.FedCells.{AreFedCells}
use Rattle.model_laws.proofs.Formed.{well_formed}
use Rattle.model_laws.proofs.Ranks.{ranked}
use Rattle.model_laws.proofs.Statements.{split, value-all, turn-some}
use Rattle.model_laws.specs.Statements.{value_by_cube}
use Rattle.rule_dense.proofs.Rights.{right-ungoverned, right-governed}
use Rattle.rule_evaluate.specs.Readings.{readings_of, statements_value}
use Rattle.rule_laws.specs.Ordered.{IsWellFormed, IsOrdered}
use Rattle.rule_laws.specs.Meaning.{value_step, truth_step}
use Rattle.rule_laws.specs.RuleSystem.{Stored, right_side, value_at, named, others}
use Rattle.rule_laws.proofs.FormulaFolds.{of-number}
use Rattle.rule_laws.specs.declared.formula.Formula.TheVariants as form
use Rattle.rule_laws.proofs.PlaceFacts.{ordered-by_place}
use Rattle.rule_laws.proofs.SystemFacts.{dense_value-solves}
use Rattle.rule_laws.proofs.SparseFacts.{unfed-zero}
use Rattle.rule_model.specs.BoundModel.{BoundModel}
use Rattle.rule_model.specs.Conditions.{AreRules}
use Rattle.rule_model.specs.Governing.{rules_for, governing_from, formula_at}
use Rattle.rule_model.specs.System.{system_of, positions_of}
use Rattle.sparse_sum.specs.Live.{is_live}
use Rattle.sparse_sum.proofs.Nexts.{stored-none}
use Rattle.stored_laws.specs.Stored.{stored_in}
use Rattle.stored_laws.proofs.Stored.{base-leaf}
use Rattle.cell_values.specs.Reading.{value_on}
use Rattle.cell_values.specs.Inside.Questions.{base_on}
use Rattle.cell_values.proofs.Members.{among-there, neither}

by_cube : (m : BoundModel) (stored : Stored) (table : ℕ → Value) (c : ℕ) → IsCell m.space c → right_side (system_of m) stored table c ≡ value_by_cube m stored table c 0
unfolding system_of
by_cube m stored table c is_cell = value-all m c (split m c is_cell) stored table

module _ (v : NumberedVersion) (valid : IsSpace v.model.space) (rules : AreRules v.model.space v.model.rules) (accepted : IsAccepted v.model) where
  pub formed : IsWellFormed (system_of v.model)
  formed = well_formed v.model valid rules

  pub ordered : IsOrdered (system_of v.model)
  ordered = ordered-by_place (system_of v.model) (positions_of v.model) formed (ranked v.model) accepted.ordered

  solved : (c : ℕ) → IsCell v.model.space c → value_on v c ≡ right_side (system_of v.model) (stored_in v.stored) (value_on v) c
  unfolding value_on system_of
  solved c is_cell = dense_value-solves (system_of v.model) formed (stored_in v.stored) ordered c is_cell

  module _ (c : ℕ) (is_cell : IsCell v.model.space c) where
    pub governed-value : (k : ℕ) → governing_from v.model c 0 ≡ Some k
        → statements_value (system_of v.model) (readings_of (system_of v.model) (stored_in v.stored) (value_on v)) c (drop k (rules_for v.model c)) ≡ value_on v c
    governed-value k governs = right-governed v.model (stored_in v.stored) (value_on v) c is_cell k governs ∙ sym (solved c is_cell)

    -- what the statement that governs the cell gives as a number alone
    pub number-value : (k : ℕ) (n : ℤ) → governing_from v.model c 0 ≡ Some k → formula_at v.model c k ≡ Some (form.Number n) → value_on v c ≡ Num n
    number-value k n governs is =
        let stored = stored_in v.stored in
        let (f, has, gives) = turn-some v.model stored (value_on v) c 0 k governs in
        let same : f ≡ form.Number n = cc in
        let rest = value_by_cube v.model stored (value_on v) c (suc k) in
        let step = value_step (named (system_of v.model) (value_on v) c) (others (system_of v.model) stored (value_on v) c rest) in
        solved c is_cell ∙ by_cube v.model stored (value_on v) c is_cell ∙ gives
        ∙ ap (value_at (system_of v.model) stored (value_on v) c rest) same
        ∙ of-number Value Bool step truth_step n

    pub ungoverned-value : governing_from v.model c 0 ≡ None → value_on v c ≡ base_on v c
    unfolding base_on
    ungoverned-value none = solved c is_cell ∙ right-ungoverned v.model (stored_in v.stored) (value_on v) c is_cell none

    pub leaf-base : is_leaf_cell v.model.space c ≡ true → base_on v c ≡ Num (number_at v.stored c)
    unfolding base_on
    leaf-base leaf = base-leaf v.model v.stored (value_on v) c leaf

    pub quiet-value : AreFedCells v.model v.stored v.fed → is_leaf_cell v.model.space c ≡ true → is_live (cells_of v.stored) v.fed c ≡ false → value_on v c ≡ zero_value
    unfolding value_on system_of
    quiet-value are leaf quiet =
        let both = neither (is_among (cells_of v.stored) c) (is_among v.fed c) quiet in
        unfed-zero (system_of v.model) (stored_in v.stored) formed ordered accepted.covered c (is_cell, leaf) (stored-none v.stored c both.0)
        (λ fed. (let there = among-there v.fed c ((are.fed c).1 fed) in let clash : true ≡ false = sym there ∙ both.1 in cc))
