-- The values of the system, by tables that solve its equations.
use Rattle.std.proofs.Common.{◌≡◌, refl, sym, ◌∙◌, lit<, arith, ℕ, zero, suc, ◌*◌, pos, Bool, true, false}
use Rattle.std.specs.Bool.{if◌then◌else◌}
use Rattle.cube_fixed.specs.declared.value.Value.{Value}
use Rattle.cube_fixed.specs.declared.value.Value.TheVariants.{Num}
use Rattle.cube_fixed.specs.Range.{unit}
use Rattle.cube_fixed.specs.Arithmetic.{zero_value, order_of, difference_of}
use Rattle.rule_laws.specs.declared.operation.Rel.TheVariants.{Greater}
use Rattle.rule_laws.specs.declared.reference.Reference.{Reference}
use Rattle.rule_laws.specs.declared.formula.Formula.TheVariants.{Continue, Children}
use Rattle.rule_laws.specs.Operation.{comparison_of}
use Rattle.rule_laws.specs.Meaning.{Others, value_step, truth_step, formula_value}
use Rattle.rule_laws.specs.RuleSystem.{SolvesRules, dense_value}
use Rattle.rule_laws.proofs.SystemFacts.{dense_value-only}
use Rattle.rule_laws.proofs.FormulaFolds.{of-continue, of-children}
use Rattle.rule_witness.specs.Replenishment.{replenishment, closing, opening, available, purchase, to, opening_formula, purchase_formula, carried_over, entered}
use Rattle.rule_witness.proofs.FormulaFolds.{of-opening, of-purchase}
use Rattle.rule_witness.proofs.WellFormed.{formed}
use Rattle.rule_witness.proofs.Ordered.{ordered}

-- ---- what each formula gives

-- a reference that is above 0 is taken, and else what was entered
opening-gives : (named : Reference → Value) (others : Others) → formula_value named others opening_formula
    ≡ (if comparison_of Greater (named (to closing)) zero_value then named (to closing) else others.stet)
opening-gives named others = of-opening Value Bool (value_step named others) truth_step

purchase-gives : (named : Reference → Value) (others : Others)
    → formula_value named others purchase_formula ≡ difference_of (Num (pos (100 * unit))) (named (to available))
purchase-gives named others = of-purchase Value Bool (value_step named others) truth_step

children-gives : (named : Reference → Value) (others : Others) → formula_value named others (Children 0) ≡ others.children 0
children-gives named others = of-children Value Bool (value_step named others) truth_step 0

continue-gives : (named : Reference → Value) (others : Others) → formula_value named others Continue ≡ others.rest
continue-gives named others = of-continue Value Bool (value_step named others) truth_step

more : comparison_of Greater (Num (pos (40 * unit))) zero_value ≡ true
unfolding order_of
more = refl

no_more : comparison_of Greater zero_value zero_value ≡ false
unfolding order_of
no_more = refl

missing : difference_of (Num (pos (100 * unit))) (Num (pos (30 * unit))) ≡ Num (pos (70 * unit))
unfolding difference_of
missing = refl

missing_more : difference_of (Num (pos (100 * unit))) (Num (pos (15 * unit))) ≡ Num (pos (85 * unit))
unfolding difference_of
missing_more = refl

-- ---- where 40 units are carried over

abbrev carried : ℕ → Value
carried zero = Num (pos (40 * unit))
carried (suc zero) = Num (pos (40 * unit))
carried (suc (suc zero)) = Num (pos (10 * unit))
carried (suc (suc (suc zero))) = Num (pos (30 * unit))
carried (suc (suc (suc (suc n)))) = Num (pos (70 * unit))

carried-solves : SolvesRules replenishment carried_over carried
carried-solves zero cell = refl
carried-solves (suc zero) cell = sym (opening-gives _ _ ∙ rw more refl)
carried-solves (suc (suc zero)) cell = refl
carried-solves (suc (suc (suc zero))) cell = sym (continue-gives _ _ ∙ children-gives _ _)
carried-solves (suc (suc (suc (suc zero)))) cell = sym (purchase-gives _ _ ∙ missing)
carried-solves (suc (suc (suc (suc (suc n))))) cell = absurd (omega (arith, cell))

pub carried-opening : dense_value replenishment carried_over opening ≡ Num (pos (40 * unit))
carried-opening = sym (dense_value-only replenishment formed carried_over ordered carried carried-solves opening (lit< tt))

pub carried-available : dense_value replenishment carried_over available ≡ Num (pos (30 * unit))
carried-available = sym (dense_value-only replenishment formed carried_over ordered carried carried-solves available (lit< tt))

pub carried-purchase : dense_value replenishment carried_over purchase ≡ Num (pos (70 * unit))
carried-purchase = sym (dense_value-only replenishment formed carried_over ordered carried carried-solves purchase (lit< tt))

-- ---- where 25 units are entered

abbrev from_entered : ℕ → Value
from_entered zero = zero_value
from_entered (suc zero) = Num (pos (25 * unit))
from_entered (suc (suc zero)) = Num (pos (10 * unit))
from_entered (suc (suc (suc zero))) = Num (pos (15 * unit))
from_entered (suc (suc (suc (suc n)))) = Num (pos (85 * unit))

entered-solves : SolvesRules replenishment entered from_entered
entered-solves zero cell = refl
entered-solves (suc zero) cell = sym (opening-gives _ _ ∙ rw no_more refl)
entered-solves (suc (suc zero)) cell = refl
entered-solves (suc (suc (suc zero))) cell = sym (continue-gives _ _ ∙ children-gives _ _)
entered-solves (suc (suc (suc (suc zero)))) cell = sym (purchase-gives _ _ ∙ missing_more)
entered-solves (suc (suc (suc (suc (suc n))))) cell = absurd (omega (arith, cell))

pub entered-opening : dense_value replenishment entered opening ≡ Num (pos (25 * unit))
entered-opening = sym (dense_value-only replenishment formed entered ordered from_entered entered-solves opening (lit< tt))

pub entered-purchase : dense_value replenishment entered purchase ≡ Num (pos (85 * unit))
entered-purchase = sym (dense_value-only replenishment formed entered ordered from_entered entered-solves purchase (lit< tt))
