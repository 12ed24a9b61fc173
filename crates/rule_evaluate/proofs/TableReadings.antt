-- The readings of a table are its values.
use Rattle.std.proofs.Common.{◌≡◌, refl, ℕ, List, [], ◌∷◌, Option, None, Some}
use Rattle.std.specs.Prelude.{ℤ}
use Rattle.cube_fixed.specs.declared.value.Value.{Value}
use Rattle.rule_laws.specs.declared.formula.Formula.{Formula}
use Rattle.rule_laws.specs.Meaning.{Precedent, Named, Components}
use Rattle.rule_laws.specs.RuleSystem.{RuleSystem, Rule, Stored, part_at, named, others, children_value, value_at, value_by}
use Rattle.rule_laws.proofs.FormulaFacts.{Alike, formula_value-agree}
use Rattle.rule_evaluate.specs.Readings.{readings_of, children_by, others_by, formula_by, statements_value}

module _ (w : RuleSystem) (stored : Stored) (table : ℕ → Value) (c : ℕ) where
  children-same : (dim : ℕ) → children_by w (readings_of w stored table) c dim ≡ children_value w stored table c dim
  children-same dim = by (w.components c dim) refl
    where
      by : (o : Option (List (ℕ × ℤ))) → w.components c dim ≡ o → children_by w (readings_of w stored table) c dim ≡ children_value w stored table c dim
      by None is = rw is refl
      by (Some pairs) is = rw is refl

  formula-same : (x y : Value) → x ≡ y → (f : Formula) → formula_by w (readings_of w stored table) c x f ≡ value_at w stored table c y f
  formula-same x y same f =
      formula_value-agree (named w table c) (named w table c) (others_by w (readings_of w stored table) c x) (others w stored table c y) refl same refl f (λ p has. alike p)
    where
      alike : (p : Precedent) → Alike (named w table c) (named w table c) (others_by w (readings_of w stored table) c x) (others w stored table c y) p
      alike (Named r) = refl
      alike (Components dim) = children-same dim

  pub readings-same : (rules : List Rule) → statements_value w (readings_of w stored table) c rules ≡ value_by w stored table c rules
  readings-same [] = refl
  readings-same (rule ∷ rules) = by (part_at w c rule) refl (readings-same rules)
    where
      by : (o : Option Formula) → part_at w c rule ≡ o → statements_value w (readings_of w stored table) c rules ≡ value_by w stored table c rules
          → statements_value w (readings_of w stored table) c (rule ∷ rules) ≡ value_by w stored table c (rule ∷ rules)
      by None is rest = rw is rest
      by (Some f) is rest = rw is (formula-same (statements_value w (readings_of w stored table) c rules) (value_by w stored table c rules) rest f)
