-- What evaluation reaches in a formula names what is there.
use Rattle.std.proofs.Common.{◌≡◌, ◌++◌, ◌∷◌, ◌<◌, ◌≤◌, ℕ, Bool, true, false, List, [], Option, Some, None, ℤ, length, refl, All, if◌then◌else◌, inl, inr}
use Rattle.std.specs.Prelude.{⊤, is_some}
use Rattle.std.proofs.lemmas.Bool.{cases_lt}
use Rattle.std.proofs.lemmas.List.Elements.{All-nil, All-cons, All-append, All-replicate}
use Rattle.std.proofs.lemmas.Option.{slice_get_past}
use Rattle.cube_space.specs.Cells.{IsCell, IsSpace, cube_of}
use Rattle.cube_space.specs.Layout.{Layout, axes}
use Rattle.model_laws.proofs.Formed.{well_formed}
use Rattle.rule_laws.specs.declared.formula.Formula.{Formula}
use Rattle.rule_laws.specs.declared.formula.Formula.TheOpen.{Formula-F, Truth-F}
use Rattle.rule_laws.specs.declared.reference.Reference.{Reference}
use Rattle.rule_laws.specs.RuleSystem.{RuleSystem}
use Rattle.rule_laws.proofs.Folds.{Layers, TruthLayers, by_layers}
use Rattle.rule_model.specs.BoundModel.{BoundModel}
use Rattle.rule_model.specs.Conditions.{AreRules}
use Rattle.rule_model.specs.System.{system_of}
use Rattle.rule_model.specs.Targets.{component_cells}
use Rattle.rule_model.specs.declared.rules.Statement.{Statement}
use Rattle.cell_trace.specs.declared.item.Item.{Item}
use Rattle.cell_trace.specs.declared.item.Item.TheVariants.{Read, Children, Own, Rest}
use Rattle.cell_trace.specs.Trace.{Scene, given, items_of, value_of}
use Rattle.cell_trace.specs.Visits.{Given, Visit, Test, passed, visit, visit_step, test_step}

-- what a system gives from a cell: the cells that references name and the components are cells, components are in a
-- dimension of the cell's cube, and what lies below are cells
pub record Names (w : RuleSystem) (space : Layout) (cell : ℕ) : Type 0 where
  pub target : (r : Reference) (x : ℕ) → w.target r cell ≡ Some x → IsCell space x
  pub dimension : (dim : ℕ) → is_some (w.components cell dim) ≡ true → dim < length (axes space (cube_of space cell))
  pub components : (dim : ℕ) (pairs : List (ℕ × ℤ)) → w.components cell dim ≡ Some pairs → All (λ pair. IsCell space pair.0) pairs
  pub below : All (λ pair. IsCell space pair.0) (w.below cell)

past : (space : Layout) (cell dim : ℕ) → length (axes space (cube_of space cell)) ≤ dim → is_some (component_cells space cell dim) ≡ false
unfolding component_cells
past space cell dim far = rw (slice_get_past (axes space (cube_of space cell)) dim far) refl

own_dimension : (space : Layout) (cell dim : ℕ) → is_some (component_cells space cell dim) ≡ true → dim < length (axes space (cube_of space cell))
own_dimension space cell dim some =
    elim (cases_lt dim (length (axes space (cube_of space cell)))) [
      | inl low ↦ low
      | inr far ↦ (let none = past space cell dim far in absurd (cc))
    ]

pub names : (m : BoundModel) (cell : ℕ) → IsSpace m.space → AreRules m.space m.rules → IsCell m.space cell → Names (system_of m) m.space cell
unfolding system_of
names m cell valid rules is_cell =
    let formed = well_formed m valid rules in
    record {
      target = λ r x is. formed.target_cell r cell x is_cell is;
      dimension = λ dim some. own_dimension m.space cell dim some;
      components = λ dim pairs is k d low. (formed.component_cells cell dim pairs is_cell is k d low).0;
      below = λ k d low. (formed.leaves_below cell is_cell k d low).0.0;
    }

-- an item of a cell
abbrev pub IsItem : Layout → ℕ → Option Item → Type 0
IsItem space cell None = ⊤
IsItem space cell (Some (Read None)) = ⊤
IsItem space cell (Some (Read (Some x))) = IsCell space x
IsItem space cell (Some (Children dim)) = dim < length (axes space (cube_of space cell))
IsItem space cell (Some Own) = ⊤
IsItem space cell (Some Rest) = ⊤

module _ (g : Given) (space : Layout) (cell : ℕ) (target : (r : Reference) (x : ℕ) → g.target r ≡ Some x → IsCell space x)
    (dimension : (dim : ℕ) → g.has_components dim ≡ true → dim < length (axes space (cube_of space cell))) where
  abbrev Are : List (Option Item) → Type 0
  Are items = All (IsItem space cell) items

  none : Are []
  none = All-nil (IsItem space cell)

  one : (item : Option Item) → IsItem space cell item → Are (item ∷ [])
  one item is = All-cons (IsItem space cell) item [] is none

  both : (xs ys : List (Option Item)) → Are xs → Are ys → Are (xs ++ ys)
  both xs ys = All-append (IsItem space cell) xs ys

  over : (n : ℕ) → Are (passed n)
  over n = All-replicate (IsItem space cell) n None tt

  read : (r : Reference) (o : Option ℕ) → g.target r ≡ o → Are (Some (Read o) ∷ [])
  read r None is = one (Some (Read None)) tt
  read r (Some x) is = one (Some (Read (Some x))) (target r x is)

  children : (dim : ℕ) (b : Bool) → g.has_components dim ≡ b → Are (if b then Some (Children dim) ∷ [] else None ∷ Some Own ∷ [])
  children dim true is = one (Some (Children dim)) (dimension dim is)
  children dim false is = All-cons (IsItem space cell) None (Some Own ∷ []) tt (one (Some Own) tt)

  chosen : (b : Bool) (xs ys us vs : List (Option Item)) → Are xs → Are ys → Are us → Are vs → Are (if b then xs ++ ys else us ++ vs)
  chosen true xs ys us vs p q r s = both xs ys p q
  chosen false xs ys us vs p q r s = both us vs r s

  either : (b : Bool) (xs ys : List (Option Item)) → Are xs → Are ys → Are (if b then xs else ys)
  either true xs ys p q = p
  either false xs ys p q = q

  -- only the first of the three folds is asked
  abbrev nothing : Formula-F (Unit {0}) (Unit {0}) → Unit {0}
  nothing l = tt

  abbrev nothing_of : Truth-F (Unit {0}) (Unit {0}) → Unit {0}
  nothing_of l = tt

  abbrev Of : Visit → Unit {0} → Unit {0} → Type 0
  Of v x y = Are v.items

  abbrev OfTest : Test → Unit {0} → Unit {0} → Type 0
  OfTest t x y = Are t.items

  layers : Layers (visit_step g) test_step nothing nothing_of nothing nothing_of Of OfTest
  layers (Formula-F.Number k) = none
  layers (Formula-F.Table dim table) = none
  layers Formula-F.Stet = one (Some Own) tt
  layers Formula-F.Continue = one (Some Rest) tt
  layers (Formula-F.Children dim) = children dim (g.has_components dim) refl
  layers (Formula-F.Ref r) = read r (g.target r) refl
  layers (Formula-F.Binary op a b) = both a.x.items b.x.items a.holds b.holds
  layers (Formula-F.Unary function a) = a.holds
  layers (Formula-F.If t a b) =
      both t.x.items (if t.x.holds then a.x.items ++ passed b.x.references else passed a.x.references ++ b.x.items) t.holds
      (chosen t.x.holds a.x.items (passed b.x.references) (passed a.x.references) b.x.items a.holds (over b.x.references) (over a.x.references) b.holds)

  truths : TruthLayers (visit_step g) test_step nothing nothing_of nothing nothing_of Of OfTest
  truths (Truth-F.Compare rel a b) = both a.x.items b.x.items a.holds b.holds
  truths (Truth-F.And a b) =
      both a.x.items (if a.x.holds then b.x.items else passed b.x.references) a.holds (either a.x.holds b.x.items (passed b.x.references) b.holds (over b.x.references))
  truths (Truth-F.Or a b) =
      both a.x.items (if a.x.holds then passed b.x.references else b.x.items) a.holds (either a.x.holds (passed b.x.references) b.x.items (over b.x.references) b.holds)
  truths (Truth-F.Not a) = a.holds

  each : (f : Formula) → Are (visit g f).items
  each f = by_layers (visit_step g) test_step nothing nothing_of nothing nothing_of Of OfTest layers truths f

pub items_are : (s : Scene) (later : List Statement) (f : Formula) → Names (system_of s.model) s.model.space s.cell → All (IsItem s.model.space s.cell) (items_of s later f)
items_are s later f n = each (given s (value_of s later)) s.model.space s.cell n.target n.dimension f
