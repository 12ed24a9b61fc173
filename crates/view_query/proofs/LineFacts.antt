-- Lines along axes: of which elements they are.
use Rattle.std.proofs.Common.{◌≡◌, ℕ, zero, suc, true, ◌==◌, eqb, List, [], ◌∷◌, ◌++◌, map, length, inl, inr, ◌⊎◌, refl, sym, ap, ◌∙◌, arith, All}
use Rattle.std.specs.List.{AllByRecursion, flat_map, list_any}
use Rattle.std.proofs.lemmas.Bool.{or_cases, eqb-true}
use Rattle.dim_core.specs.Outline.{Outline}
use Rattle.view_query.specs.declared.shape.Axis.{Axis}
use Rattle.view_query.specs.Views.{lines, IsAxis}
use Rattle.view_query.specs.Inside.Lines.{IsElementOf, IsLine}
use Rattle.std.proofs.lemmas.List.{nil_from_length as nothing}

-- each of these elements in front of each of these lines
abbrev pub spread : List (List ℕ) → List ℕ → List (List ℕ)
spread later elements = flat_map (λ element. map (λ line. element ∷ line) later) elements

spread_none : (elements : List ℕ) → spread [] elements ≡ []
spread_none [] = refl
spread_none (x ∷ xs) = spread_none xs

-- without an element on one axis there is no line
pub none_with_empty : (axes : List Axis) → list_any (λ axis. length axis.elements == 0) axes ≡ true → [] ≡ lines axes
none_with_empty [] any = absurd (cc any)
none_with_empty (axis ∷ axes) any = by (none_with_empty axes) (or_cases (eqb (length axis.elements) 0) (list_any (λ a. length a.elements == 0) axes) any)
  where
    by : (list_any (λ a. length a.elements == 0) axes ≡ true → [] ≡ lines axes) → (eqb (length axis.elements) 0 ≡ true) ⊎ (list_any (λ a. length a.elements == 0) axes ≡ true) → [] ≡ lines (axis ∷ axes)
    by later (inl here) = sym (ap (spread (lines axes)) (nothing axis.elements (eqb-true _ _ here)))
    by later (inr there) = sym (ap (λ ls. spread ls axis.elements) (sym (later there)) ∙ spread_none axis.elements)

-- ---- what holds of each item

pub to_each : {X : Type 0} (P : X → Type 0) (xs : List X) → All P xs → AllByRecursion P xs
to_each P [] all = tt
to_each P (x ∷ xs) all = (all 0 x (omega arith), to_each P xs (λ k d low. all (suc k) d (omega arith)))

pub from_each : {X : Type 0} (P : X → Type 0) (xs : List X) → AllByRecursion P xs → All P xs
from_each P [] each k d low = absurd (omega arith)
from_each P (x ∷ xs) each zero d low = each.0
from_each P (x ∷ xs) each (suc k) d low = from_each P xs each.1 k d (omega arith)

each_append : {X : Type 0} (P : X → Type 0) (xs ys : List X) → AllByRecursion P xs → AllByRecursion P ys → AllByRecursion P (xs ++ ys)
each_append P [] ys a b = b
each_append P (x ∷ xs) ys a b = (a.0, each_append P xs ys a.1 b)

module _ (dimensions : List Outline) where
  each_led : (axis : Axis) (axes : List Axis) (element : ℕ) (later : List (List ℕ)) → IsElementOf dimensions axis element → AllByRecursion (IsLine dimensions axes) later
      → AllByRecursion (IsLine dimensions (axis ∷ axes)) (map (λ line. element ∷ line) later)
  each_led axis axes element [] own each = tt
  each_led axis axes element (line ∷ later) own each = ((own, each.0), each_led axis axes element later own each.1)

  each_spread : (axis : Axis) (axes : List Axis) (later : List (List ℕ)) (elements : List ℕ) → AllByRecursion (IsLine dimensions axes) later → AllByRecursion (IsElementOf dimensions axis) elements
      → AllByRecursion (IsLine dimensions (axis ∷ axes)) (spread later elements)
  each_spread axis axes later [] lines_each elements_each = tt
  each_spread axis axes later (e ∷ es) lines_each elements_each =
      each_append (IsLine dimensions (axis ∷ axes)) (map (λ line. e ∷ line) later) (spread later es)
      (each_led axis axes e later elements_each.0 lines_each) (each_spread axis axes later es lines_each elements_each.1)

  elements_each : (axis : Axis) → IsAxis dimensions axis → AllByRecursion (IsElementOf dimensions axis) axis.elements
  elements_each axis is =
      to_each (IsElementOf dimensions axis) axis.elements (λ k d low. (is.0, is.1, is.2 k d low))

  lines_each : (axes : List Axis) → AllByRecursion (IsAxis dimensions) axes → AllByRecursion (IsLine dimensions axes) (lines axes)
  lines_each [] each = (tt, tt)
  lines_each (axis ∷ axes) each = each_spread axis axes (lines axes) axis.elements (lines_each axes each.1) (elements_each axis each.0)

  -- the lines along axes have one element of each of them
  pub lines_are : (axes : List Axis) → All (IsAxis dimensions) axes → All (IsLine dimensions axes) (lines axes)
  lines_are axes all = from_each (IsLine dimensions axes) (lines axes) (lines_each axes (to_each (IsAxis dimensions) axes all))
