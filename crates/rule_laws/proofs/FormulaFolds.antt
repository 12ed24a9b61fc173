-- What a fold gives of a formula and of a truth, by its root.
use Rattle.std.proofs.Common.{◌≡◌, sym, ◌∙◌, ap, ℕ, ℤ, List}
use Rattle.rule_laws.specs.declared.operation.Op.{Op}
use Rattle.rule_laws.specs.declared.operation.Fun.{Fun}
use Rattle.rule_laws.specs.declared.operation.Rel.{Rel}
use Rattle.rule_laws.specs.declared.reference.Reference.{Reference}
use Rattle.rule_laws.specs.declared.formula.Formula.{Formula}
use Rattle.rule_laws.specs.declared.formula.Formula.TheFolds.{fold-Formula, fold-Truth, fold-roll-Formula, fold-roll-Truth}
use Rattle.rule_laws.specs.declared.formula.Formula.TheOpen.{Formula-F, Truth-F}
use Rattle.rule_laws.specs.declared.formula.Formula.TheVariants.{Number, Stet, Continue, Children, Ref, Table, Binary, Unary, If, rolls-Number, rolls-Stet, rolls-Continue, rolls-Children, rolls-Ref, rolls-Table, rolls-Binary, rolls-Unary, rolls-If}
use Rattle.rule_laws.specs.declared.formula.Truth.{Truth}
use Rattle.rule_laws.specs.declared.formula.Truth.TheVariants.{Compare, And, Or, Not, rolls-Compare, rolls-And, rolls-Or, rolls-Not}

module _ (V T : Type 0) (step : Formula-F V T → V) (truth_step : Truth-F V T → T) where
  abbrev of : Formula → V
  of = fold-Formula V T step truth_step

  abbrev of_truth : Truth → T
  of_truth = fold-Truth V T step truth_step

  pub of-number : (k : ℤ) → of (Number k) ≡ step (Formula-F.Number k)
  of-number k = ap of (sym (rolls-Number k)) ∙ fold-roll-Formula V T step truth_step (Formula-F.Number k)

  pub of-stet : of Stet ≡ step Formula-F.Stet
  of-stet = ap of (sym rolls-Stet) ∙ fold-roll-Formula V T step truth_step Formula-F.Stet

  pub of-continue : of Continue ≡ step Formula-F.Continue
  of-continue = ap of (sym rolls-Continue) ∙ fold-roll-Formula V T step truth_step Formula-F.Continue

  pub of-children : (dim : ℕ) → of (Children dim) ≡ step (Formula-F.Children dim)
  of-children dim = ap of (sym (rolls-Children dim)) ∙ fold-roll-Formula V T step truth_step (Formula-F.Children dim)

  pub of-ref : (r : Reference) → of (Ref r) ≡ step (Formula-F.Ref r)
  of-ref r = ap of (sym (rolls-Ref r)) ∙ fold-roll-Formula V T step truth_step (Formula-F.Ref r)

  pub of-table : (dim : ℕ) (table : List ℤ) → of (Table dim table) ≡ step (Formula-F.Table dim table)
  of-table dim table = ap of (sym (rolls-Table dim table)) ∙ fold-roll-Formula V T step truth_step (Formula-F.Table dim table)

  pub of-binary : (op : Op) (a b : Formula) → of (Binary op a b) ≡ step (Formula-F.Binary op (of a) (of b))
  of-binary op a b = ap of (sym (rolls-Binary op a b)) ∙ fold-roll-Formula V T step truth_step (Formula-F.Binary op a b)

  pub of-unary : (function : Fun) (a : Formula) → of (Unary function a) ≡ step (Formula-F.Unary function (of a))
  of-unary function a = ap of (sym (rolls-Unary function a)) ∙ fold-roll-Formula V T step truth_step (Formula-F.Unary function a)

  pub of-if : (t : Truth) (a b : Formula) → of (If t a b) ≡ step (Formula-F.If (of_truth t) (of a) (of b))
  of-if t a b = ap of (sym (rolls-If t a b)) ∙ fold-roll-Formula V T step truth_step (Formula-F.If t a b)

  pub of-compare : (rel : Rel) (a b : Formula) → of_truth (Compare rel a b) ≡ truth_step (Truth-F.Compare rel (of a) (of b))
  of-compare rel a b = ap of_truth (sym (rolls-Compare rel a b)) ∙ fold-roll-Truth V T step truth_step (Truth-F.Compare rel a b)

  pub of-and : (a b : Truth) → of_truth (And a b) ≡ truth_step (Truth-F.And (of_truth a) (of_truth b))
  of-and a b = ap of_truth (sym (rolls-And a b)) ∙ fold-roll-Truth V T step truth_step (Truth-F.And a b)

  pub of-or : (a b : Truth) → of_truth (Or a b) ≡ truth_step (Truth-F.Or (of_truth a) (of_truth b))
  of-or a b = ap of_truth (sym (rolls-Or a b)) ∙ fold-roll-Truth V T step truth_step (Truth-F.Or a b)

  pub of-not : (a : Truth) → of_truth (Not a) ≡ truth_step (Truth-F.Not (of_truth a))
  of-not a = ap of_truth (sym (rolls-Not a)) ∙ fold-roll-Truth V T step truth_step (Truth-F.Not a)
