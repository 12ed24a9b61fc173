-- The cell that the arguments of a reference name.
use Rattle.std.proofs.Common.{◌≡◌, ℕ, suc, ◌<◌, List, [], ◌∷◌, length, Option, Some, None, refl, sym, ap, ◌∙◌, arith}
use Rattle.std.specs.Prelude.{option_and_then}
use Rattle.cube_space.specs.Layout.{Layout}
use Rattle.cube_space.specs.Cells.{IsSpace, cell_number}
use Rattle.rule_laws.specs.declared.reference.Arg.{Arg}
use Rattle.rule_model.specs.Named.{with_element}
use Rattle.rule_model.specs.Targets.{element_by, elements_by}
use Rattle.rule_model.proofs.Shapes.{none_of_many}

-- each argument names one element
pub one_each : (elements : List ℕ) (args : List Arg) (found : List ℕ) → elements_by elements args ≡ Some found → length found ≡ length args
one_each elements [] found is = let e : [] ≡ found = cc in ap length (sym e)
one_each elements (arg ∷ args) found is = by (λ es more. one_each elements args es more) (element_by elements arg) (elements_by elements args) refl is
  where
    by : ((es : List ℕ) → elements_by elements args ≡ Some es → length es ≡ length args)
        → (o : Option ℕ) (os : Option (List ℕ)) → elements_by elements args ≡ os → with_element o os ≡ Some found → length found ≡ suc (length args)
    by rest None os more at = absurd (cc at)
    by rest (Some e) None more at = absurd (cc at)
    by rest (Some e) (Some es) more at = let same : e ∷ es ≡ found = cc in ap length (sym same) ∙ ap suc (rest es more)

pub none_by_many : (space : Layout) (cube : ℕ) (elements : List ℕ) (args : List Arg) → IsSpace space → 16 < length args → None ≡ option_and_then (cell_number space cube) (elements_by elements args)
none_by_many space cube elements args valid many = by (elements_by elements args) refl
  where
    by : (o : Option (List ℕ)) → elements_by elements args ≡ o → None ≡ option_and_then (cell_number space cube) o
    by None is = refl
    by (Some found) is = none_of_many space cube found valid (omega (arith, one_each elements args found is, many))
