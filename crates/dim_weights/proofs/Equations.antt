-- The coefficients of a dimension are the solutions of their equations.
use Rattle.std.proofs.Common.{◌≡◌, ◌≢◌, ℕ, ◌<◌, Bool, true, false, cond, eqb, ℤ, pos, List, [], ◌∷◌, length, refl, sym, ◌∙◌, subst, arith, All}
use Rattle.std.specs.List.{list_all}
use Rattle.std.proofs.lemmas.Bool.{eqb-true}
use Rattle.std.proofs.lemmas.Int.{ints}
use Rattle.std.proofs.lemmas.List.Elements.{All-head, All-tail}
use Rattle.equations.specs.Equations.{IsGrounded, Solves}
use Rattle.equations.proofs.RoundsFacts.{table_by_rounds-solves, table_by_rounds-only}
use Rattle.dim_order.specs.Members.{is_among}
use Rattle.dim_order.proofs.Depths.{Agree, agree-parts, depth, depth-within}
use Rattle.dim_order.proofs.Tests.{both}
use Rattle.dim_core.specs.Outline.{Outline, IsDimension, IsElement, IsWeight, component_lists, components_of}
use Rattle.dim_core.proofs.LevelLaws.{length-component_lists}
use Rattle.dim_weights.specs.Coefficients.{weighted_sum, coef_over, coef_side, coef}

-- tables that agree on the first elements agree on components that are among them
agree-within : {V : Type 0} (n : ℕ) (front : List ℕ) (S T : ℕ → V) (parts : List (ℕ × ℤ)) → list_all (λ part. is_among front part.0) parts ≡ true
    → All (λ part. (part.0 < n) × IsWeight part.1) parts → ((x : ℕ) → x < n → is_among front x ≡ true → S x ≡ T x) → Agree S T parts
agree-within n front S T [] among within same = tt
agree-within n front S T (part ∷ parts) among within same =
    let tests = both (is_among front part.0) (list_all (λ part. is_among front part.0) parts) among in (
      same part.0 (All-head (λ part. (part.0 < n) × IsWeight part.1) part parts within).0 tests.0,
      agree-within n front S T parts tests.1 (All-tail (λ part. (part.0 < n) × IsWeight part.1) part parts within) same,
    )

weighted_sum-agree : (S T : ℕ → ℤ) (parts : List (ℕ × ℤ)) → Agree S T parts → weighted_sum S parts ≡ weighted_sum T parts
weighted_sum-agree S T [] same = refl
weighted_sum-agree S T (part ∷ parts) same = rw (same.0, weighted_sum-agree S T parts same.1) refl

coef_over-agree : (leaf element : ℕ) (S T : ℕ → ℤ) (parts : List (ℕ × ℤ)) → Agree S T parts → coef_over leaf element S parts ≡ coef_over leaf element T parts
coef_over-agree leaf element S T [] same = refl
coef_over-agree leaf element S T (part ∷ parts) same = weighted_sum-agree S T (part ∷ parts) same

module _ (d : Outline) (dim : IsDimension d) where
  inside : (element : ℕ) → IsElement d element → element < length (component_lists d.elements)
  inside element here = omega (arith, here, length-component_lists d)

  coef-grounded : (leaf : ℕ) → IsGrounded (IsElement d) (depth (component_lists d.elements) dim.order dim.ordered) (coef_side d leaf)
  coef-grounded leaf S T element here same =
      coef_over-agree leaf element S T (components_of d element)
      (agree-parts (component_lists d.elements) dim.order dim.ordered S T element (inside element here)
      (λ x within less. same x (omega (arith, within, length-component_lists d)) less))

  enough : (element : ℕ) → IsElement d element → depth (component_lists d.elements) dim.order dim.ordered element < length d.elements
  enough element here = omega (arith, depth-within (component_lists d.elements) dim.order dim.ordered element (inside element here), length-component_lists d)

  pub coef-solves : (leaf : ℕ) → Solves (IsElement d) (coef_side d leaf) (λ element. coef d element leaf)
  unfolding coef
  coef-solves leaf = table_by_rounds-solves (IsElement d) (depth (component_lists d.elements) dim.order dim.ordered) (coef_side d leaf) (coef-grounded leaf) (pos 0) (λ _. length d.elements) enough

  pub coef-only : (leaf : ℕ) (table : ℕ → ℤ) → Solves (IsElement d) (coef_side d leaf) table → (element : ℕ) → IsElement d element → table element ≡ coef d element leaf
  unfolding coef
  coef-only leaf table solves element here = table_by_rounds-only (IsElement d) (depth (component_lists d.elements) dim.order dim.ordered) (coef_side d leaf) (coef-grounded leaf) (pos 0) (λ _. length d.elements) enough table solves element here

weighted_sum-zero : (parts : List (ℕ × ℤ)) → weighted_sum (λ _. pos 0) parts ≡ pos 0
weighted_sum-zero [] = refl
weighted_sum-zero (part ∷ parts) = let rest = weighted_sum-zero parts in omega (arith, ints)

-- a leaf that isn't one counts nowhere
coef_over-zero : (leaf element : ℕ) (parts : List (ℕ × ℤ)) → (parts ≡ [] → element ≢ leaf) → coef_over leaf element (λ _. pos 0) parts ≡ pos 0
coef_over-zero leaf element [] other = by (eqb element leaf) refl
  where
    by : (b : Bool) → eqb element leaf ≡ b → cond b (pos 1) (pos 0) ≡ pos 0
    by true e = absurd (other refl (eqb-true element leaf e))
    by false e = refl
coef_over-zero leaf element (part ∷ parts) other = weighted_sum-zero (part ∷ parts)

pub only-leaves : (d : Outline) → IsDimension d → (leaf : ℕ) → components_of d leaf ≢ [] → (element : ℕ) → IsElement d element → coef d element leaf ≡ pos 0
only-leaves d dim leaf above element here =
    sym (coef-only d dim leaf (λ _. pos 0)
    (λ e within. sym (coef_over-zero leaf e (components_of d e) (λ none same. above (subst (λ (x : ℕ). components_of d x ≡ []) same none))))
    element here)

-- the coefficient of a leaf in an element, where those in its components are known
pub coef-from : (d : Outline) → IsDimension d → (leaf : ℕ) (front : List ℕ) (table : ℕ → ℤ) (element : ℕ) → IsElement d element
    → list_all (λ part. is_among front part.0) (components_of d element) ≡ true → ((x : ℕ) → is_among front x ≡ true → x < length d.elements → table x ≡ coef d x leaf)
    → coef_over leaf element table (components_of d element) ≡ coef d element leaf
coef-from d dim leaf front table element here among known =
    coef_over-agree leaf element table (λ x. coef d x leaf) (components_of d element) (agree-within (length d.elements) front table (λ x. coef d x leaf) (components_of d element) among (dim.parts element) (λ x within there. known x there within))
    ∙ sym (coef-solves d dim leaf element here)
