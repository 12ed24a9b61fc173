-- The components of an element, as cells.
use Rattle.std.proofs.Common.{◌≡◌, refl, ap, ◌∙◌, arith, subst, ℕ, zero, suc, ◌<◌, true, ℤ, pos, Option, Some, None, List, [], ◌∷◌, length, get_or, set, nat_lt, All, Contains}
use Rattle.std.specs.Prelude.{slice_get, slice_index_or, option_map}
use Rattle.std.specs.Option.{option_map_or}
use Rattle.std.specs.List.{filter_map}
use Rattle.std.proofs.lemmas.Bool.{and_parts, and_from, lt-ltb}
use Rattle.dim_core.specs.Outline.{Outline, IsDimension, components_of}
use Rattle.cube_space.specs.Radix.{are_digits}
use Rattle.cube_space.specs.Layout.{Layout, axes, axes_of, dims_of, sizes, sizes_of}
use Rattle.cube_space.specs.Cells.{IsSpace}
use Rattle.rule_model.specs.Targets.{with_components, parts_at, component_cells}
use Rattle.order_laws.specs.Scales.{parts_in}
pub use Rattle.dim_weights.proofs.Nonzero.{counts-nonzero, nonzero-counts}

-- another element in one dimension
pub digits-set : (sizes es : List ℕ) (dim k : ℕ) → are_digits sizes es ≡ true → dim < length sizes → k < slice_index_or sizes dim 0 → are_digits sizes (set es dim k) ≡ true
digits-set [] es dim k h low within = absurd (omega arith)
digits-set (s ∷ sizes) [] dim k h low within = absurd (cc)
digits-set (s ∷ sizes) (e ∷ es) zero k h low within =
    let parts = and_parts (nat_lt e s) (are_digits sizes es) h in
    and_from (nat_lt k s) (are_digits sizes es) (lt-ltb k s within) parts.1
digits-set (s ∷ sizes) (e ∷ es) (suc dim) k h low within =
    let parts = and_parts (nat_lt e s) (are_digits sizes es) h in
    and_from (nat_lt e s) (are_digits sizes (set es dim k)) parts.0 (digits-set sizes es dim k parts.1 (omega arith) within)

-- the components with cells, one by one
module _ (cell : ℕ → Option ℕ) where
  abbrev pub with_cell : ℕ × ℤ → Option (ℕ × ℤ)
  with_cell part = option_map (λ x. (x, part.1)) (cell part.0)

  -- a component has this cell and weight
  abbrev pub IsPart : List (ℕ × ℤ) → ℕ → ℤ → Type 0
  IsPart parts t w = (k : ℕ) × (k < length parts) × (cell (get_or parts k (0, pos 0)).0 ≡ Some t) × ((get_or parts k (0, pos 0)).1 ≡ w)

  abbrev Holds : List (ℕ × ℤ) → ℕ → ℕ → ℤ → Type 0
  Holds xs j t w = (j < length xs) × (slice_index_or xs j (t, w) ≡ (t, w))

  more : (part : ℕ × ℤ) (parts : List (ℕ × ℤ)) (t : ℕ) (w : ℤ) → IsPart parts t w → IsPart (part ∷ parts) t w
  more part parts t w (k, low, names, weighs) = (suc k, omega (arith, low), names, weighs)

  found-step : (part : ℕ × ℤ) (parts : List (ℕ × ℤ)) (t : ℕ) (w : ℤ) → ((j : ℕ) → Holds (filter_map with_cell parts) j t w → IsPart parts t w)
      → (j : ℕ) → Holds (filter_map with_cell (part ∷ parts)) j t w → IsPart (part ∷ parts) t w
  found-step part parts t w rest = by (cell part.0) refl
    where
      Cons : Option ℕ → List (ℕ × ℤ)
      Cons x = Rattle.std.specs.List.cons_option (option_map (λ y. (y, part.1)) x) (filter_map with_cell parts)

      by : (x : Option ℕ) → cell part.0 ≡ x → (j : ℕ) → Holds (Rattle.std.specs.List.cons_option (option_map (λ y. (y, part.1)) x) (filter_map with_cell parts)) j t w → IsPart (part ∷ parts) t w
      by None e j (low, is) = more part parts t w (rest j (low, is))
      by (Some y) e zero (low, is) =
          let first : y ≡ t = ap (λ (p : ℕ × ℤ). p.0) is in
          let second : part.1 ≡ w = ap (λ (p : ℕ × ℤ). p.1) is in
          (0, omega arith, e ∙ ap Some first, second)
      by (Some y) e (suc j) (low, is) = more part parts t w (rest j (omega (arith, low), is))

  found : (parts : List (ℕ × ℤ)) (t : ℕ) (w : ℤ) (j : ℕ) → Holds (filter_map with_cell parts) j t w → IsPart parts t w
  found [] t w j h = absurd (omega (arith, h.0))
  found (part ∷ parts) t w j h = found-step part parts t w (found parts t w) j h

  pub part-found : (parts : List (ℕ × ℤ)) (t : ℕ) (w : ℤ) → Contains (filter_map with_cell parts) (t, w) → IsPart parts t w
  part-found parts t w (j, low, is) = found parts t w j (low, is)

  pub found-part : (parts : List (ℕ × ℤ)) (k t : ℕ) → k < length parts → cell (get_or parts k (0, pos 0)).0 ≡ Some t → Contains (filter_map with_cell parts) (t, (get_or parts k (0, pos 0)).1)
  found-part [] k t low is = absurd (omega arith)
  found-part (part ∷ parts) zero t low is = rw is (0, omega arith, refl)
  found-part (part ∷ parts) (suc k) t low is = by (cell part.0) (found-part parts k t (omega arith) is)
    where
      by : (x : Option ℕ) → Contains (filter_map with_cell parts) (t, (get_or parts k (0, pos 0)).1) → Contains (Rattle.std.specs.List.cons_option (option_map (λ y. (y, part.1)) x) (filter_map with_cell parts)) (t, (get_or parts k (0, pos 0)).1)
      by None has = has
      by (Some y) (j, low, is) = (suc j, omega (arith, low), is)

-- what the component cells are
pub components-some : (space : Layout) (c dim : ℕ) (pairs parts : List (ℕ × ℤ)) → parts_at space c dim ≡ parts → component_cells space c dim ≡ Some pairs → with_components space c dim parts ≡ pairs
unfolding component_cells
components-some space c dim pairs [] e h = absurd (let wrong = rw e at h in cc)
components-some space c dim pairs (p ∷ ps) e h = let all = rw e at h in cc

pub components-of : (space : Layout) (c dim k : ℕ) (parts : List (ℕ × ℤ)) → parts_at space c dim ≡ parts → k < length parts → component_cells space c dim ≡ Some (with_components space c dim parts)
unfolding component_cells
components-of space c dim k [] e low = absurd (omega arith)
components-of space c dim k (p ∷ ps) e low = rw e refl

-- the dimensions of a cube are dimensions
axes-all : (D : List Outline) (dims : List ℕ) (i : ℕ) (d : Outline) → All IsDimension D → slice_get (axes_of D dims) i ≡ Some d → IsDimension d
axes-all D [] i d all is = absurd (cc is)
axes-all D (k ∷ dims) i d all is = by (slice_get D k) refl i is (λ i is. axes-all D dims i d all is)
  where
    at : (D : List Outline) (k : ℕ) (x : Outline) → All IsDimension D → slice_get D k ≡ Some x → IsDimension x
    at [] k x all e = absurd (cc e)
    at (y ∷ D) zero x all e = let same : y ≡ x = cc in subst IsDimension same (all 0 y (omega arith))
    at (y ∷ D) (suc k) x all e = at D k x (λ j d low. all (suc j) d (omega arith)) e

    by : (x : Option Outline) → slice_get D k ≡ x → (i : ℕ) → slice_get (Rattle.std.specs.List.cons_option x (axes_of D dims)) i ≡ Some d → ((i : ℕ) → slice_get (axes_of D dims) i ≡ Some d → IsDimension d) → IsDimension d
    by None e i is rest = rest i is
    by (Some x) e zero is rest = let same : x ≡ d = cc in subst IsDimension same (at D k x all e)
    by (Some x) e (suc i) is rest = rest i is

pub size-at : (ds : List Outline) (i : ℕ) (d : Outline) → slice_get ds i ≡ Some d → slice_index_or (sizes_of ds) i 0 ≡ length d.elements
size-at [] i d is = absurd (cc is)
size-at (x ∷ ds) zero d is = let same : x ≡ d = cc in ap (λ (d : Outline). length d.elements) same
size-at (x ∷ ds) (suc i) d is = size-at ds i d is

-- a component is an element of its dimension
pub part-below : (space : Layout) (cube dim e k : ℕ) → IsSpace space → k < length (parts_in (axes space cube) dim e) → (get_or (parts_in (axes space cube) dim e) k (0, pos 0)).0 < slice_index_or (sizes space cube) dim 0
part-below space cube dim e k valid low = by (slice_get (axes space cube) dim) refl low
  where
    by : (x : Option Outline) → slice_get (axes space cube) dim ≡ x → k < length (option_map_or (λ d. components_of d e) x []) → (get_or (option_map_or (λ d. components_of d e) x []) k (0, pos 0)).0 < slice_index_or (sizes space cube) dim 0
    by None is low = absurd (omega arith)
    by (Some d) is low =
        let own = axes-all space.dimensions (dims_of space cube) dim d valid.dimensions is in
        let size = size-at (axes space cube) dim d is in
        omega (arith, (own.parts e k (0, pos 0) low).0, size)
