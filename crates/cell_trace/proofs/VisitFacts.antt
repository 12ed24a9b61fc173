-- What evaluation reaches in a formula: one item for each reference.
use Rattle.std.proofs.Common.{◌≡◌, refl, ap, ◌∙◌, All, ℕ, zero, suc, ◌+◌, arith, Bool, true, false, List, [], ◌∷◌, ◌++◌, length, Option, Some, None}
use Rattle.std.specs.Prelude.{if◌then◌else◌}
use Rattle.std.specs.Prelude.{IfSome}
use Rattle.std.proofs.lemmas.List.Elements.{All-append, All-cons, All-nil, All-replicate}
use Rattle.std.proofs.lemmas.List.{length-append}
use Rattle.cube_fixed.specs.declared.value.Value.{Value}
use Rattle.rule_laws.specs.declared.formula.Formula.{Formula}
use Rattle.rule_laws.specs.declared.formula.Formula.TheOpen.{Formula-F, Truth-F}
use Rattle.rule_laws.specs.declared.formula.Truth.{Truth}
use Rattle.rule_laws.specs.declared.reference.Reference.{Reference}
use Rattle.rule_laws.specs.Meaning.{Precedent, precedents, truth_precedents, precedents_step, truth_precedents_step}
use Rattle.rule_laws.proofs.Folds.{Layers, TruthLayers, by_layers, by_layers_truth}
use Rattle.model_laws.proofs.Formed.{target-cell}
use Rattle.cube_space.specs.Cells.{IsCell}
use Rattle.cell_trace.specs.declared.item.Item.{Item}
use Rattle.cell_trace.specs.declared.item.Item.TheVariants.{Read, Children, Own, Rest}
use Rattle.cell_trace.specs.Inside.Items.{IsItem, numbered}
use Rattle.cell_trace.specs.Inside.Place.{Place, given_at, has_components_at, target_at}
use Rattle.cell_trace.specs.Visits.{Given, Visit, Test, passed, visit_step, test_step, visit, test}

numbered-append : (xs ys : List (Option Item)) → numbered (xs ++ ys) ≡ numbered xs + numbered ys
numbered-append [] ys = omega arith
numbered-append (None ∷ xs) ys = let on = numbered-append xs ys in omega arith
numbered-append (Some (Read target) ∷ xs) ys = let on = numbered-append xs ys in omega arith
numbered-append (Some (Children dim) ∷ xs) ys = let on = numbered-append xs ys in omega arith
numbered-append (Some Own ∷ xs) ys = numbered-append xs ys
numbered-append (Some Rest ∷ xs) ys = numbered-append xs ys

numbered-passed : (n : ℕ) → numbered (passed n) ≡ n
numbered-passed zero = refl
numbered-passed (suc n) = ap suc (numbered-passed n)

module _ (given : Given) where
  -- as many items of references as there are references
  Is : Visit → List Precedent → List Precedent → Type 0
  Is x y z = (x.references ≡ length y) × (numbered x.items ≡ x.references)

  IsTest : Test → List Precedent → List Precedent → Type 0
  IsTest x y z = (x.references ≡ length y) × (numbered x.items ≡ x.references)

  layers : Layers (visit_step given) test_step precedents_step truth_precedents_step precedents_step truth_precedents_step Is IsTest
  unfolding Is IsTest
  layers (Formula-F.Number k) = (refl, refl)
  layers Formula-F.Stet = (refl, refl)
  layers Formula-F.Continue = (refl, refl)
  layers (Formula-F.Children dim) = (refl, by (given.has_components dim))
    where
      by : (b : Bool) → numbered (if b then Some (Children dim) ∷ [] else None ∷ Some Own ∷ []) ≡ 1
      by true = refl
      by false = refl
  layers (Formula-F.Ref r) = (refl, refl)
  layers (Formula-F.Table dim table) = (refl, refl)
  layers (Formula-F.Binary op a b) =
      (simp length-append (omega (arith, a.holds, b.holds)), simp numbered-append (omega (arith, a.holds, b.holds)))
  layers (Formula-F.Unary function a) = a.holds
  layers (Formula-F.If t a b) = (simp length-append (omega (arith, t.holds, a.holds, b.holds)), by t.x.holds)
    where
      by : (b' : Bool)
          → numbered (t.x.items ++ (if b' then a.x.items ++ passed b.x.references else passed a.x.references ++ b.x.items))
          ≡ t.x.references + (a.x.references + b.x.references)
      by true = simp (numbered-append, numbered-passed) (omega (arith, t.holds, a.holds, b.holds))
      by false = simp (numbered-append, numbered-passed) (omega (arith, t.holds, a.holds, b.holds))

  tests : TruthLayers (visit_step given) test_step precedents_step truth_precedents_step precedents_step truth_precedents_step Is IsTest
  unfolding Is IsTest
  tests (Truth-F.Compare rel a b) =
      (simp length-append (omega (arith, a.holds, b.holds)), simp numbered-append (omega (arith, a.holds, b.holds)))
  tests (Truth-F.And a b) = (simp length-append (omega (arith, a.holds, b.holds)), by a.x.holds)
    where
      by : (on : Bool) → numbered (a.x.items ++ (if on then b.x.items else passed b.x.references)) ≡ a.x.references + b.x.references
      by true = simp numbered-append (omega (arith, a.holds, b.holds))
      by false = simp (numbered-append, numbered-passed) (omega (arith, a.holds, b.holds))
  tests (Truth-F.Or a b) = (simp length-append (omega (arith, a.holds, b.holds)), by a.x.holds)
    where
      by : (on : Bool) → numbered (a.x.items ++ (if on then passed b.x.references else b.x.items)) ≡ a.x.references + b.x.references
      by true = simp (numbered-append, numbered-passed) (omega (arith, a.holds, b.holds))
      by false = simp numbered-append (omega (arith, a.holds, b.holds))
  tests (Truth-F.Not a) = a.holds

  facts : (f : Formula) → ((visit given f).references ≡ length (precedents f)) × (numbered (visit given f).items ≡ (visit given f).references)
  unfolding Is IsTest
  facts f = by_layers (visit_step given) test_step precedents_step truth_precedents_step precedents_step truth_precedents_step Is IsTest layers tests f

  test_facts : (t : Truth) → ((test given t).references ≡ length (truth_precedents t)) × (numbered (test given t).items ≡ (test given t).references)
  unfolding Is IsTest
  test_facts t = by_layers_truth (visit_step given) test_step precedents_step truth_precedents_step precedents_step truth_precedents_step Is IsTest layers tests t

  pub visit_references : (f : Formula) → (visit given f).references ≡ length (precedents f)
  visit_references f = (facts f).0

  pub test_references : (t : Truth) → (test given t).references ≡ length (truth_precedents t)
  test_references t = (test_facts t).0

  pub visit_numbered : (f : Formula) → numbered (visit given f).items ≡ length (precedents f)
  visit_numbered f = (facts f).1 ∙ (facts f).0

-- what its references name are cells
module _ (p : Place) (rest : Value) where
  abbrev here : Given
  here = given_at p rest

  AreItems : Visit → Visit → Visit → Type 0
  AreItems x y z = All (IsItem p) x.items

  AreTestItems : Test → Test → Test → Type 0
  AreTestItems x y z = All (IsItem p) x.items

  abbrev one : (item : Option Item) → IsItem p item → All (IsItem p) (item ∷ [])
  one item is = All-cons (IsItem p) item [] is (All-nil (IsItem p))

  some_cell : (r : Reference) (o : Option ℕ) → target_at p r ≡ o → IfSome o (IsCell p.version.model.space)
  unfolding target_at
  some_cell r None is = tt
  some_cell r (Some x) is = target-cell p.version.model.space r p.cell x is

  all_passed : (n : ℕ) → All (IsItem p) (passed n)
  all_passed n = All-replicate (IsItem p) n None tt

  all_append : (xs ys : List (Option Item)) → All (IsItem p) xs → All (IsItem p) ys → All (IsItem p) (xs ++ ys)
  all_append xs ys = All-append (IsItem p) xs ys

  item_layers : Layers (visit_step here) test_step (visit_step here) test_step (visit_step here) test_step AreItems AreTestItems
  unfolding AreItems AreTestItems
  item_layers (Formula-F.Number k) = All-nil (IsItem p)
  item_layers Formula-F.Stet = one (Some Own) tt
  item_layers Formula-F.Continue = one (Some Rest) tt
  item_layers (Formula-F.Children dim) = by (has_components_at p dim)
    where
      by : (b : Bool) → All (IsItem p) (if b then Some (Children dim) ∷ [] else None ∷ Some Own ∷ [])
      by true = one (Some (Children dim)) tt
      by false = All-cons (IsItem p) None (Some Own ∷ []) tt (one (Some Own) tt)
  item_layers (Formula-F.Ref r) = one (Some (Read (target_at p r))) (some_cell r (target_at p r) refl)
  item_layers (Formula-F.Table dim table) = All-nil (IsItem p)
  item_layers (Formula-F.Binary op a b) = all_append a.x.items b.x.items a.holds b.holds
  item_layers (Formula-F.Unary function a) = a.holds
  item_layers (Formula-F.If t a b) = all_append t.x.items _ t.holds (by t.x.holds)
    where
      by : (b' : Bool) → All (IsItem p) (if b' then a.x.items ++ passed b.x.references else passed a.x.references ++ b.x.items)
      by true = all_append a.x.items _ a.holds (all_passed b.x.references)
      by false = all_append (passed a.x.references) b.x.items (all_passed a.x.references) b.holds

  item_tests : TruthLayers (visit_step here) test_step (visit_step here) test_step (visit_step here) test_step AreItems AreTestItems
  unfolding AreItems AreTestItems
  item_tests (Truth-F.Compare rel a b) = all_append a.x.items b.x.items a.holds b.holds
  item_tests (Truth-F.And a b) = all_append a.x.items _ a.holds (by a.x.holds)
    where
      by : (on : Bool) → All (IsItem p) (if on then b.x.items else passed b.x.references)
      by true = b.holds
      by false = all_passed b.x.references
  item_tests (Truth-F.Or a b) = all_append a.x.items _ a.holds (by a.x.holds)
    where
      by : (on : Bool) → All (IsItem p) (if on then passed b.x.references else b.x.items)
      by true = all_passed b.x.references
      by false = b.holds
  item_tests (Truth-F.Not a) = a.holds

  pub visit_items : (f : Formula) → All (IsItem p) (visit here f).items
  unfolding AreItems AreTestItems
  visit_items f = by_layers (visit_step here) test_step (visit_step here) test_step (visit_step here) test_step AreItems AreTestItems item_layers item_tests f
