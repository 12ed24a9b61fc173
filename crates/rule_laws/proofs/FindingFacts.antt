-- What is found of a formula rests on its references alone, and its operands are counted right.
use Rattle.std.proofs.Common.{if◌then◌else◌, min, ◌≡◌, refl, ◌∙◌, ap, subst, inl, inr, arith, ℕ, zero, suc, ◌+◌, ◌≤◌, Bool, true, false, ◌&&◌, List, [], ◌∷◌, ◌++◌, Option, None, Some}
use Rattle.std.specs.List.{Contains}
use Rattle.std.specs.Prelude.{IsTrue, ◌↔◌}
use Rattle.std.proofs.lemmas.List.Elements.{Contains-push, Contains-append_left, Contains-append_right, Contains-append_cases}
use Rattle.rule_laws.specs.declared.finding.Finding.{Finding}
use Rattle.rule_laws.specs.declared.finding.TruthFinding.{TruthFinding}
use Rattle.rule_laws.specs.declared.operation.Op.{Op}
use Rattle.rule_laws.specs.declared.operation.Op.TheVariants.{Add, Sub, Mul, DivSafe, Div, Max, Min, Mod, RoundTo}
use Rattle.rule_laws.specs.declared.reference.Reference.{Reference}
use Rattle.rule_laws.specs.declared.formula.Formula.{Formula}
use Rattle.rule_laws.specs.declared.formula.Truth.{Truth}
use Rattle.rule_laws.specs.declared.formula.Formula.TheOpen.{Formula-F, Truth-F}
use Rattle.rule_laws.specs.Meaning.{Precedent, Named, Components, precedents_step, truth_precedents_step, precedents, truth_precedents, each_reference_step, each_reference_truth_step, each_reference}
use Rattle.rule_laws.specs.ZeroTest.{of_function, of_choice, is_divisor, is_decimals, first_blamed, blamed_side, blamed_branch, finding_step, truth_finding_step, finding, truth_finding, operands_step, truth_operands_step, operands}
use Rattle.rule_laws.proofs.Folds.{Layers, TruthLayers, by_layers, by_layers_truth}
use Rattle.rule_laws.proofs.FormulaFacts.{each_left, each_right}
use Rattle.rule_laws.proofs.SystemFacts.{both}
use Rattle.std.proofs.lemmas.Bool.{and_from as and_true}

module _ (covers other : Reference → Bool) where
  -- the two tell the same of a reference
  abbrev Alike : Precedent → Type 0
  Alike (Named r) = covers r ≡ other r
  Alike (Components dim) = Unit {0}

  abbrev Same : {V : Type 0} → List Precedent → V → V → Type 0
  Same ps v u = ((p : Precedent) → Contains ps p → Alike p) → v ≡ u

  layers : Layers precedents_step truth_precedents_step (finding_step covers) truth_finding_step (finding_step other) truth_finding_step Same Same
  layers (Formula-F.Number k) agree = refl
  layers Formula-F.Stet agree = refl
  layers Formula-F.Continue agree = refl
  layers (Formula-F.Children dim) agree = refl
  layers (Formula-F.Ref r) agree = let same : covers r ≡ other r = agree (Named r) (Contains-push [] (Named r)) in rw same refl
  layers (Formula-F.Table dim table) agree = refl
  layers (Formula-F.Binary op a b) agree = rw (a.holds (each_left Alike a.x b.x agree), b.holds (each_right Alike a.x b.x agree)) refl
  layers (Formula-F.Unary function a) agree = ap (of_function function) (a.holds agree)
  layers (Formula-F.If t a b) agree =
      let front = each_left Alike (t.x ++ a.x) b.x agree in
      ap (λ truth. of_choice truth a.y b.y) (t.holds (each_left Alike t.x a.x front))
      ∙ ap (λ left. of_choice t.z left b.y) (a.holds (each_right Alike t.x a.x front))
      ∙ ap (of_choice t.z a.z) (b.holds (each_right Alike (t.x ++ a.x) b.x agree))

  truths : TruthLayers precedents_step truth_precedents_step (finding_step covers) truth_finding_step (finding_step other) truth_finding_step Same Same
  truths (Truth-F.Compare rel a b) agree = rw (a.holds (each_left Alike a.x b.x agree), b.holds (each_right Alike a.x b.x agree)) refl
  truths (Truth-F.And a b) agree = rw (a.holds (each_left Alike a.x b.x agree), b.holds (each_right Alike a.x b.x agree)) refl
  truths (Truth-F.Or a b) agree = rw (a.holds (each_left Alike a.x b.x agree), b.holds (each_right Alike a.x b.x agree)) refl
  truths (Truth-F.Not a) agree = ap (λ (t : TruthFinding). truth_finding_step (Truth-F.Not t)) (a.holds agree)

  alike : (ps : List Precedent) → ((r : Reference) → Contains ps (Named r) → covers r ≡ other r) → (p : Precedent) → Contains ps p → Alike p
  alike ps same (Named r) has = same r has
  alike ps same (Components dim) has = tt

  pub finding-same : (f : Formula) → ((r : Reference) → Contains (precedents f) (Named r) → covers r ≡ other r) → finding covers f ≡ finding other f
  finding-same f same =
      by_layers precedents_step truth_precedents_step (finding_step covers) truth_finding_step (finding_step other) truth_finding_step Same Same layers truths f (alike (precedents f) same)

  pub truth_finding-same : (t : Truth) → ((r : Reference) → Contains (truth_precedents t) (Named r) → covers r ≡ other r) → truth_finding covers t ≡ truth_finding other t
  truth_finding-same t same =
      by_layers_truth precedents_step truth_precedents_step (finding_step covers) truth_finding_step (finding_step other) truth_finding_step Same Same layers truths t (alike (truth_precedents t) same)

-- ---- operands

-- as many operands as there are, and the blamed one is among them
abbrev Counted : ℕ → Finding → Finding → Type 0
Counted n a b = (a.operands ≡ n) × (a.blamed ≤ n)

abbrev CountedTruth : ℕ → TruthFinding → TruthFinding → Type 0
CountedTruth n a b = a.operands ≡ n

first-within : (before : ℕ) (a b : Finding) → a.blamed ≤ a.operands → b.blamed ≤ b.operands → first_blamed before a b ≤ before + a.operands + b.operands
first-within before a b left right = by a.is_zero refl
  where
    by : (z : Bool) → a.is_zero ≡ z → first_blamed before a b ≤ before + a.operands + b.operands
    by true is = rw is (omega arith)
    by false is = rw is (omega arith)

divided-within : (a b : Finding) → a.blamed ≤ a.operands → b.blamed ≤ b.operands → (if is_divisor b then a.blamed else a.operands + min 1 b.operands) ≤ a.operands + b.operands
divided-within a b left right = by (is_divisor b) refl
  where
    by : (d : Bool) → is_divisor b ≡ d → (if is_divisor b then a.blamed else a.operands + min 1 b.operands) ≤ a.operands + b.operands
    by true is = rw is (omega arith)
    by false is = rw is (omega arith)

rounded-within : (a b : Finding) → a.blamed ≤ a.operands → b.blamed ≤ b.operands → (if is_decimals b then a.blamed else a.operands + b.blamed) ≤ a.operands + b.operands
rounded-within a b left right = by (is_decimals b) refl
  where
    by : (d : Bool) → is_decimals b ≡ d → (if is_decimals b then a.blamed else a.operands + b.blamed) ≤ a.operands + b.operands
    by true is = rw is (omega arith)
    by false is = rw is (omega arith)

side-within : (op : Op) (a b : Finding) → a.blamed ≤ a.operands → b.blamed ≤ b.operands → blamed_side op a b ≤ a.operands + b.operands
side-within Add a b left right = let h = first-within 0 a b left right in omega (arith, h)
side-within Sub a b left right = let h = first-within 0 a b left right in omega (arith, h)
side-within Max a b left right = let h = first-within 0 a b left right in omega (arith, h)
side-within Min a b left right = let h = first-within 0 a b left right in omega (arith, h)
side-within Mul a b left right = omega arith
side-within DivSafe a b left right = omega arith
side-within Div a b left right = divided-within a b left right
side-within Mod a b left right = divided-within a b left right
side-within RoundTo a b left right = rounded-within a b left right

branch-within : (t : TruthFinding) (a b : Finding) → a.blamed ≤ a.operands → b.blamed ≤ b.operands
    → blamed_branch t a b ≤ t.operands + a.operands + b.operands
branch-within t a b left right = by t.sure refl
  where
    by : (o : Option Bool) → t.sure ≡ o → blamed_branch t a b ≤ t.operands + a.operands + b.operands
    by (Some true) is = rw is (omega arith)
    by (Some false) is = rw is (omega arith)
    by None is = rw is (first-within t.operands a b left right)

module _ (covers : Reference → Bool) where
  counted : Layers operands_step truth_operands_step (finding_step covers) truth_finding_step (finding_step covers) truth_finding_step Counted CountedTruth
  counted (Formula-F.Number k) = (refl, omega arith)
  counted Formula-F.Stet = (refl, omega arith)
  counted Formula-F.Continue = (refl, omega arith)
  counted (Formula-F.Children dim) = (refl, omega arith)
  counted (Formula-F.Ref r) = (refl, omega arith)
  counted (Formula-F.Table dim table) = (refl, omega arith)
  counted (Formula-F.Binary op a b) =
      let h = side-within op a.y b.y (rw a.holds.0 a.holds.1) (rw b.holds.0 b.holds.1) in
      (omega (arith, a.holds.0, b.holds.0), omega (arith, a.holds.0, b.holds.0, h))
  counted (Formula-F.Unary function a) = a.holds
  counted (Formula-F.If t a b) =
      let h = branch-within t.y a.y b.y (rw a.holds.0 a.holds.1) (rw b.holds.0 b.holds.1) in
      (omega (arith, t.holds, a.holds.0, b.holds.0), omega (arith, t.holds, a.holds.0, b.holds.0, h))

  counted_truth : TruthLayers operands_step truth_operands_step (finding_step covers) truth_finding_step (finding_step covers) truth_finding_step Counted CountedTruth
  counted_truth (Truth-F.Compare rel a b) = omega (arith, a.holds.0, b.holds.0)
  counted_truth (Truth-F.And a b) = omega (arith, a.holds, b.holds)
  counted_truth (Truth-F.Or a b) = omega (arith, a.holds, b.holds)
  counted_truth (Truth-F.Not a) = a.holds

  pub finding-counted : (f : Formula) → ((finding covers f).operands ≡ operands f) × ((finding covers f).blamed ≤ operands f)
  finding-counted = by_layers operands_step truth_operands_step (finding_step covers) truth_finding_step (finding_step covers) truth_finding_step Counted CountedTruth counted counted_truth

-- ---- each reference

abbrev IsPassedBy : (Reference → Bool) → List Precedent → Type 0
IsPassedBy test ps = (r : Reference) → Contains ps (Named r) → test r ≡ true

-- the test of each reference says that each passes
abbrev Passed : (Reference → Bool) → List Precedent → Bool → Bool → Type 0
Passed test ps b _ = IsTrue b ↔ IsPassedBy test ps

pub Contains-push_only : {X : Type 0} (x y : X) → Contains (x ∷ []) y → x ≡ y
Contains-push_only x y (zero, less, is) = is
Contains-push_only x y (suc k, less, is) = absurd (omega (arith, less))

module _ (test : Reference → Bool) where
  none-passed : Passed test [] true true
  none-passed = (λ on r has. absurd (omega (arith, has.1)), λ each. refl)

  both-passed : (ps qs : List Precedent) (a b x y : Bool) → Passed test ps a x → Passed test qs b y → Passed test (ps ++ qs) (a && b) (x && y)
  both-passed ps qs a b x y left right = (
    λ on r has. elim (Contains-append_cases ps qs (Named r) has) [
      | inl here ↦ left.0 (both a b on).0 r here
      | inr there ↦ right.0 (both a b on).1 r there
    ],
    λ each. and_true a b (left.1 (λ r has. each r (Contains-append_left ps qs (Named r) has))) (right.1 (λ r has. each r (Contains-append_right ps qs (Named r) has))),
  )

  passed : Layers precedents_step truth_precedents_step (each_reference_step test) each_reference_truth_step (each_reference_step test) each_reference_truth_step (Passed test) (Passed test)
  passed (Formula-F.Number k) = none-passed
  passed Formula-F.Stet = none-passed
  passed Formula-F.Continue = none-passed
  passed (Formula-F.Children dim) =
      (λ on r has. (let other : Components dim ≡ Named r = Contains-push_only (Components dim) (Named r) has in cc), λ each. refl)
  passed (Formula-F.Ref r) = (
    λ on s has. (let same : Named r ≡ Named s = Contains-push_only (Named r) (Named s) has in let is : r ≡ s = cc in subst (λ x. test x ≡ true) is on),
    λ each. each r (Contains-push [] (Named r)),
  )
  passed (Formula-F.Table dim table) = none-passed
  passed (Formula-F.Binary op a b) = both-passed a.x b.x a.y b.y a.z b.z a.holds b.holds
  passed (Formula-F.Unary function a) = a.holds
  passed (Formula-F.If t a b) = both-passed (t.x ++ a.x) b.x (t.y && a.y) b.y (t.z && a.z) b.z (both-passed t.x a.x t.y a.y t.z a.z t.holds a.holds) b.holds

  passed_truth : TruthLayers precedents_step truth_precedents_step (each_reference_step test) each_reference_truth_step (each_reference_step test) each_reference_truth_step (Passed test) (Passed test)
  passed_truth (Truth-F.Compare rel a b) = both-passed a.x b.x a.y b.y a.z b.z a.holds b.holds
  passed_truth (Truth-F.And a b) = both-passed a.x b.x a.y b.y a.z b.z a.holds b.holds
  passed_truth (Truth-F.Or a b) = both-passed a.x b.x a.y b.y a.z b.z a.holds b.holds
  passed_truth (Truth-F.Not a) = a.holds

  pub each_reference-is : (f : Formula) → IsTrue (each_reference test f) ↔ IsPassedBy test (precedents f)
  each_reference-is = by_layers precedents_step truth_precedents_step (each_reference_step test) each_reference_truth_step (each_reference_step test) each_reference_truth_step (Passed test) (Passed test) passed passed_truth
