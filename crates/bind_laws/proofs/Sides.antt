-- A side of a comparison as it is bound: the same, or a number in place of a table.
use Rattle.std.proofs.Common.{◌≡◌, ℕ, ℤ, Option, Some, None, subst, sym, ◌∙◌}
use Rattle.std.specs.Option.{option_map_or}
use Rattle.cube_space.specs.Layout.{Layout}
use Rattle.rule_laws.specs.declared.formula.Formula.{Formula, out-Formula, roll-Formula}
use Rattle.rule_laws.specs.declared.formula.Formula.TheOpen.{Formula-F}
use Rattle.rule_laws.specs.declared.formula.Formula.TheViews.{roll-out-Formula}
use Rattle.rule_laws.specs.declared.formula.Formula.TheVariants as formulas
use Rattle.rule_laws.specs.declared.formula.Formula.TheVariants.{rolls-Table}
use Rattle.rule_laws.specs.declared.formula.Truth.{Truth}
use Rattle.rule_bind.specs.declared.sureness.Test.{Test}
use Rattle.rule_bind.specs.Sureness.{Sets, number_at, side_layer, side}

module _ (space : Layout) (cube : ℕ) (sets : Sets) (P : Formula → Type 0) (number : (k : ℤ) → P (formulas.Number k)) where
  either : (o : Option ℤ) (f : Formula) → P f → P (option_map_or formulas.Number o f)
  either None f has = has
  either (Some k) f has = number k

  layer_has : (test : Test) (f : Formula) (l : Formula-F Formula Truth) → roll-Formula l ≡ f → P f → P (side_layer space cube sets test f l)
  layer_has test f (Formula-F.Number k) is has = has
  layer_has test f Formula-F.Stet is has = has
  layer_has test f Formula-F.Continue is has = has
  layer_has test f (Formula-F.Children dim) is has = has
  layer_has test f (Formula-F.Ref r) is has = has
  layer_has test f (Formula-F.Table place table) is has =
      either (number_at space cube sets test place table) (formulas.Table place table) (subst P (sym is ∙ rolls-Table place table) has)
  layer_has test f (Formula-F.Binary op a b) is has = has
  layer_has test f (Formula-F.Unary function a) is has = has
  layer_has test f (Formula-F.If truth a b) is has = has

  -- what holds of a formula, and of each number, holds of the side
  pub side_has : (test : Option Test) (f : Formula) → P f → P (side space cube sets test f)
  unfolding side
  side_has None f has = has
  side_has (Some test) f has = layer_has test f (out-Formula f) (roll-out-Formula f) has
