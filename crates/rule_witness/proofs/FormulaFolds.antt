-- What a fold gives of the formulas of the system, part by part.
use Rattle.std.proofs.Common.{◌≡◌, ◌∙◌, ap, pos, ◌*◌}
use Rattle.cube_fixed.specs.Range.{unit}
use Rattle.rule_laws.specs.declared.operation.Op.TheVariants.{Sub}
use Rattle.rule_laws.specs.declared.operation.Rel.TheVariants.{Greater}
use Rattle.rule_laws.specs.declared.formula.Formula.{Formula}
use Rattle.rule_laws.specs.declared.formula.Formula.TheFolds.{fold-Formula, fold-Truth}
use Rattle.rule_laws.specs.declared.formula.Formula.TheOpen.{Formula-F, Truth-F}
use Rattle.rule_laws.specs.declared.formula.Formula.TheVariants.{Number, Stet, Ref}
use Rattle.rule_laws.specs.declared.formula.Truth.{Truth}
use Rattle.rule_laws.proofs.FormulaFolds.{of-number, of-stet, of-ref, of-binary, of-if, of-compare}
use Rattle.rule_witness.specs.Replenishment.{to, closing, available, is_left, opening_formula, purchase_formula}

module _ (V T : Type 0) (step : Formula-F V T → V) (truth_step : Truth-F V T → T) where
  abbrev of : Formula → V
  of = fold-Formula V T step truth_step

  abbrev of_truth : Truth → T
  of_truth = fold-Truth V T step truth_step

  of-left : of_truth is_left ≡ truth_step (Truth-F.Compare Greater (step (Formula-F.Ref (to closing))) (step (Formula-F.Number (pos 0))))
  of-left =
      of-compare V T step truth_step Greater (Ref (to closing)) (Number (pos 0))
      ∙ ap (λ (v : V). truth_step (Truth-F.Compare Greater v (of (Number (pos 0))))) (of-ref V T step truth_step (to closing))
      ∙ ap (λ (v : V). truth_step (Truth-F.Compare Greater (step (Formula-F.Ref (to closing))) v)) (of-number V T step truth_step (pos 0))

  abbrev left : T
  left = truth_step (Truth-F.Compare Greater (step (Formula-F.Ref (to closing))) (step (Formula-F.Number (pos 0))))

  pub of-opening : of opening_formula ≡ step (Formula-F.If left (step (Formula-F.Ref (to closing))) (step Formula-F.Stet))
  of-opening =
      of-if V T step truth_step is_left (Ref (to closing)) Stet ∙ ap (λ (t : T). step (Formula-F.If t (of (Ref (to closing))) (of Stet))) of-left
      ∙ ap (λ (v : V). step (Formula-F.If left v (of Stet))) (of-ref V T step truth_step (to closing))
      ∙ ap (λ (v : V). step (Formula-F.If left (step (Formula-F.Ref (to closing))) v)) (of-stet V T step truth_step)

  pub of-purchase : of purchase_formula ≡ step (Formula-F.Binary Sub (step (Formula-F.Number (pos (100 * unit)))) (step (Formula-F.Ref (to available))))
  of-purchase =
      of-binary V T step truth_step Sub (Number (pos (100 * unit))) (Ref (to available))
      ∙ ap (λ (v : V). step (Formula-F.Binary Sub v (of (Ref (to available))))) (of-number V T step truth_step (pos (100 * unit)))
      ∙ ap (λ (v : V). step (Formula-F.Binary Sub (step (Formula-F.Number (pos (100 * unit)))) v)) (of-ref V T step truth_step (to available))
