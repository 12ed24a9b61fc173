-- What evaluation reaches in a formula, by its parts.
use Rattle.std.proofs.Common.{◌≡◌, refl, ap, ◌∙◌, true, false, List, ◌++◌, append_assoc}
use Rattle.std.specs.Prelude.{if◌then◌else◌}
use Rattle.rule_laws.specs.declared.formula.Formula.{Formula}
use Rattle.rule_laws.specs.declared.formula.Formula.TheVariants.{If}
use Rattle.rule_laws.specs.declared.formula.Truth.{Truth}
use Rattle.rule_laws.specs.declared.formula.Truth.TheVariants.{And, Or}
use Rattle.rule_laws.proofs.FormulaFolds.{of-if, of-and, of-or}
use Rattle.cell_trace.specs.Visits.{Given, Visit, Test, passed, visit_step, test_step, visit, test}

module _ (g : Given) where
  abbrev V : Formula → Visit
  V = visit g

  abbrev T : Truth → Test
  T = test g

  if_items : (f : Formula) (t : Truth) (a b : Formula) → f ≡ If t a b
      → (V f).items ≡ (T t).items ++ (if (T t).holds then (V a).items ++ passed (V b).references else passed (V a).references ++ (V b).items)
  if_items f t a b is = ap (λ v. v.items) (ap V is ∙ of-if Visit Test (visit_step g) test_step t a b)

  pub if_true : (f : Formula) (t : Truth) (a b : Formula) → f ≡ If t a b → (T t).holds ≡ true
      → (V f).items ≡ (T t).items ++ ((V a).items ++ passed (V b).references)
  if_true f t a b is on =
      if_items f t a b is ∙ ap (λ h. (T t).items ++ (if h then (V a).items ++ passed (V b).references else passed (V a).references ++ (V b).items)) on

  pub if_false : (f : Formula) (t : Truth) (a b : Formula) → f ≡ If t a b → (T t).holds ≡ false
      → (V f).items ≡ (T t).items ++ (passed (V a).references ++ (V b).items)
  if_false f t a b is off =
      if_items f t a b is ∙ ap (λ h. (T t).items ++ (if h then (V a).items ++ passed (V b).references else passed (V a).references ++ (V b).items)) off

  and_items : (t a b : Truth) → t ≡ And a b → (T t).items ≡ (T a).items ++ (if (T a).holds then (T b).items else passed (T b).references)
  and_items t a b is = ap (λ v. v.items) (ap T is ∙ of-and Visit Test (visit_step g) test_step a b)

  pub and_false : (t a b : Truth) → t ≡ And a b → (T a).holds ≡ false → (T t).items ≡ (T a).items ++ passed (T b).references
  and_false t a b is off = and_items t a b is ∙ ap (λ h. (T a).items ++ (if h then (T b).items else passed (T b).references)) off

  or_items : (t a b : Truth) → t ≡ Or a b → (T t).items ≡ (T a).items ++ (if (T a).holds then passed (T b).references else (T b).items)
  or_items t a b is = ap (λ v. v.items) (ap T is ∙ of-or Visit Test (visit_step g) test_step a b)

  pub or_true : (t a b : Truth) → t ≡ Or a b → (T a).holds ≡ true → (T t).items ≡ (T a).items ++ passed (T b).references
  or_true t a b is on = or_items t a b is ∙ ap (λ h. (T a).items ++ (if h then passed (T b).references else (T b).items)) on

  pub or_false : (t a b : Truth) → t ≡ Or a b → (T a).holds ≡ false → (T t).items ≡ (T a).items ++ (T b).items
  or_false t a b is off = or_items t a b is ∙ ap (λ h. (T a).items ++ (if h then passed (T b).references else (T b).items)) off

-- two lists behind a list, and three
pub behind_two : {X : Type 0} (old a b x y all : List X) → a ≡ old ++ x → b ≡ a ++ y → all ≡ x ++ y → b ≡ old ++ all
behind_two old a b x y all ea eb is = rw (eb, ea, is) (append_assoc old x y)

pub behind_three : {X : Type 0} (old a b c x y z all : List X) → a ≡ old ++ x → b ≡ a ++ y → c ≡ b ++ z → all ≡ x ++ (y ++ z) → c ≡ old ++ all
behind_three old a b c x y z all ea eb ec is =
    behind_two a b c y z (y ++ z) eb ec refl ∙ behind_two old a (a ++ (y ++ z)) x (y ++ z) all ea refl is
