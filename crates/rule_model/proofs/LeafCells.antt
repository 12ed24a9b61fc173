-- An order with one list of positions, in which no leaf ranks above an element in which it counts, puts no leaf cell
-- behind a consolidated cell in which it counts.
use Rattle.std.proofs.Common.{◌≡◌, refl, sym, ◌∙◌, ap, arith, subst, ℕ, zero, suc, ◌<◌, ◌≤◌, inl, inr, ◌⊎◌, true, ℤ, pos, ◌*ℤ◌, List, [], ◌∷◌, length, get_or, Some, nat_lt}
use Rattle.std.specs.Prelude.{slice_get, ⊤, None}
use Rattle.std.specs.List.{All}
use Rattle.std.proofs.Math.IntN.{*ℤ-zero, zero-*ℤ}
use Rattle.std.proofs.lemmas.Bool.{and_parts, ltb-true, cases_lt}
use Rattle.std.proofs.lemmas.List.{get_or_past}
use Rattle.dim_core.specs.Outline.{Outline, IsElement}
use Rattle.dim_weights.specs.Coefficients.{coef}
use Rattle.cube_space.specs.Radix.{are_digits}
use Rattle.cube_space.specs.Layout.{sizes_of}
use Rattle.rule_model.specs.declared.order.Order.{Order}
use Rattle.rule_model.specs.declared.order.Position.{Position}
use Rattle.rule_model.specs.declared.order.Position.TheVariants.{Constant, Ranks}
use Rattle.rule_model.specs.Conditions.{IsPosition, HoldsLeaves, HoldsLeafCells}
use Rattle.rule_model.specs.Weights.{coef_product}
use Rattle.rule_model.specs.Order.{number_by}

-- there is an element of each dimension
pub element-of : (ds : List Outline) (elements : List ℕ) (k : ℕ) (d : Outline) → are_digits (sizes_of ds) elements ≡ true → slice_get ds k ≡ Some d → (k < length elements) × IsElement d (get_or elements k 0)
element-of [] elements k d are is = absurd (cc)
element-of (x ∷ ds) [] k d are is = absurd (cc)
element-of (x ∷ ds) (e ∷ elements) zero d are is =
    let same : x ≡ d = cc in
    let parts = and_parts (nat_lt e (length x.elements)) (are_digits (sizes_of ds) elements) are in
    (omega arith, subst (λ (o : Outline). e < length o.elements) same (ltb-true e (length x.elements) parts.0))
element-of (x ∷ ds) (e ∷ elements) (suc k) d are is =
    let parts = and_parts (nat_lt e (length x.elements)) (are_digits (sizes_of ds) elements) are in
    let rest = element-of ds elements k d parts.1 is in
    (omega (arith, rest.0), rest.1)

-- a product other than 0 has no factor that is
pub coefs-counted : (ds : List Outline) (cell leaf : List ℕ) (k : ℕ) (d : Outline) → (coef_product ds cell leaf ≡ pos 0 → ⊥) → slice_get ds k ≡ Some d → coef d (get_or cell k 0) (get_or leaf k 0) ≡ pos 0 → ⊥
coefs-counted [] cell leaf k d counted is none = cc
coefs-counted (x ∷ ds) [] leaf k d counted is none = counted refl
coefs-counted (x ∷ ds) (e ∷ cell) [] k d counted is none = counted refl
coefs-counted (x ∷ ds) (e ∷ cell) (l ∷ leaf) zero d counted is none =
    let same : x ≡ d = cc in
    let here : coef x e l ≡ pos 0 = subst (λ (o : Outline). coef o e l ≡ pos 0) (sym same) none in
    counted (ap (λ (z : ℤ). z *ℤ coef_product ds cell leaf) here ∙ zero-*ℤ (coef_product ds cell leaf))
coefs-counted (x ∷ ds) (e ∷ cell) (l ∷ leaf) (suc k) d counted is none =
    coefs-counted ds cell leaf k d (λ rest. counted (ap (λ (z : ℤ). coef x e l *ℤ z) rest ∙ *ℤ-zero (coef x e l))) is none

-- in the ranks of a position, no leaf ranks above an element in which it counts
abbrev pub HoldsLeavesAt : List Outline → Position → Type 0
HoldsLeavesAt dimensions (Constant number) = ⊤
HoldsLeavesAt dimensions (Ranks dim ranks) =
    (dimension : Outline) → slice_get dimensions dim ≡ Some dimension → HoldsLeaves dimension ranks

number-by : (ds : List Outline) (position : Position) (cell leaf : List ℕ) → IsPosition ds position → HoldsLeavesAt ds position → are_digits (sizes_of ds) cell ≡ true → are_digits (sizes_of ds) leaf ≡ true
    → (coef_product ds cell leaf ≡ pos 0 → ⊥) → number_by position leaf ≤ number_by position cell
number-by ds (Constant number) cell leaf is holds upper lower counts = omega arith
number-by ds (Ranks dim ranks) cell leaf (d, own, are) holds upper lower counts =
    holds d own (get_or cell dim 0) (get_or leaf dim 0) (element-of ds cell dim d upper own).1 (element-of ds leaf dim d lower own).1 (coefs-counted ds cell leaf dim d counts own)

abbrev pub of_both : List Position → Order
of_both positions = record { positions = positions; totals = None }

pub leaf_cells-held : (ds : List Outline) (positions : List Position) → All (IsPosition ds) positions → All (HoldsLeavesAt ds) positions → HoldsLeafCells ds (of_both positions)
leaf_cells-held ds positions are hold cell leaf place below before = by (cases_lt place (length positions))
  where
    by : (place < length positions) ⊎ (length positions ≤ place) → number_by (get_or positions place (Constant 0)) leaf ≤ number_by (get_or positions place (Constant 0)) cell
    by (inl within) =
        number-by ds (get_or positions place (Constant 0)) cell leaf (are place (Constant 0) within) (hold place (Constant 0) within) below.cell below.leaf below.counts
    by (inr past) =
        let none : get_or positions place (Constant 0) ≡ Constant 0 = get_or_past positions place (Constant 0) past in
        subst (λ (p : Position). number_by p leaf ≤ number_by p cell) (sym none) (omega arith)
