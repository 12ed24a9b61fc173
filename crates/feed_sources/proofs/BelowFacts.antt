-- The leaf cells below a cell, and those that a cell means.
use Rattle.std.proofs.Common.{◌≡◌, refl, sym, ap, ◌∙◌, subst, ℕ, zero, suc, ◌<◌, inl, inr, Bool, true, false, ℤ, List, [], ◌∷◌, length, map, get_or, Some, arith, zero-add}
use Rattle.std.specs.List.{Contains, filter, range_with_len}
use Rattle.std.proofs.lemmas.Bool.{cond_both, eq-eqb}
use Rattle.std.proofs.lemmas.Option.{cond_some}
use Rattle.std.proofs.lemmas.List.FromFn.{get_or-range_with_len, length-range_with_len}
use Rattle.dim_weights.specs.Table.{is_nonzero, nonzero_among}
use Rattle.cube_space.specs.Layout.{Layout, axes}
use Rattle.cube_space.specs.Cells.{IsCell, size_of, cube_of, elements_of, are_leaves, is_leaf_cell, cell_number, is_place}
use Rattle.cube_space.proofs.Places.{place_number, is_place-parts, place-within, cell_at-place}
use Rattle.rule_laws.specs.Feeding.{leaves_of}
use Rattle.rule_model.specs.BoundModel.{BoundModel}
use Rattle.rule_model.specs.System.{system_of}
use Rattle.rule_model.specs.Weights.{coef_product, weight, leaf_cells, leaves_below}
use Rattle.feed_sources.proofs.Members.{none-there, at-front, behind, front-or-behind}
use Rattle.dim_weights.proofs.Nonzero.{among-in as nonzero-has}

-- ---- the leaves with a value other than 0

pub has-nonzero : (value : ℕ → ℤ) (leaves : List ℕ) (p : ℕ × ℤ) → Contains (nonzero_among value leaves) p → Contains leaves p.0 × (is_nonzero (value p.0) ≡ true)
has-nonzero value [] p has = absurd (none-there p has)
has-nonzero value (x ∷ leaves) p has = by (λ (more : Contains (nonzero_among value leaves) p). has-nonzero value leaves p more) (is_nonzero (value x)) refl
  where
    later : (Contains (nonzero_among value leaves) p → Contains leaves p.0 × (is_nonzero (value p.0) ≡ true)) → Contains (nonzero_among value leaves) p → Contains (x ∷ leaves) p.0 × (is_nonzero (value p.0) ≡ true)
    later again more = let rest = again more in (behind x leaves p.0 rest.0, rest.1)

    by : (Contains (nonzero_among value leaves) p → Contains leaves p.0 × (is_nonzero (value p.0) ≡ true)) → (b : Bool) → is_nonzero (value x) ≡ b → Contains (x ∷ leaves) p.0 × (is_nonzero (value p.0) ≡ true)
    by again true on =
        elim (front-or-behind (x, value x) (nonzero_among value leaves) p (rw on at has)) [
          | inl is ↦ (let same : x ≡ p.0 = ap (λ (q : ℕ × ℤ). q.0) is in
              (subst (Contains (x ∷ leaves)) same (at-front x leaves), ap (λ (y : ℕ). is_nonzero (value y)) (sym same) ∙ on))
          | inr more ↦ later again more
        ]
    by again false off = later again (rw off at has)

-- the cells of the leaf cells below a cell
pub below-has : (space : Layout) (t c : ℕ) → Contains (map (λ pair. pair.0) (leaves_below space t)) c → Contains (leaf_cells space) c × (is_nonzero (weight space t c) ≡ true)
below-has space t c (k, low, is) =
    let found = slice_get_map_at (leaves_below space t) k c (omega (arith, low)) is in
    subst (λ (y : ℕ). Contains (leaf_cells space) y × (is_nonzero (weight space t y) ≡ true)) found.2 (has-nonzero (weight space t) (leaf_cells space) found.0 found.1)
  where
    slice_get_map_at : (ps : List (ℕ × ℤ)) (k c : ℕ) → k < length (map (λ (pair : ℕ × ℤ). pair.0) ps) → get_or (map (λ (pair : ℕ × ℤ). pair.0) ps) k c ≡ c → (p : ℕ × ℤ) × Contains ps p × (p.0 ≡ c)
    slice_get_map_at [] k c low is = absurd (omega (arith, low))
    slice_get_map_at (p ∷ ps) zero c low is = (p, at-front p ps, is)
    slice_get_map_at (p ∷ ps) (suc k) c low is = let later = slice_get_map_at ps k c (omega (arith, low)) is in (later.0, behind p ps later.0 later.1, later.2)

pub has-below : (space : Layout) (t c : ℕ) → Contains (leaf_cells space) c → is_nonzero (weight space t c) ≡ true → Contains (map (λ pair. pair.0) (leaves_below space t)) c
has-below space t c leaf on = mapped (leaves_below space t) (c, weight space t c) (nonzero-has (weight space t) (leaf_cells space) c leaf on)
  where
    mapped : (ps : List (ℕ × ℤ)) (p : ℕ × ℤ) → Contains ps p → Contains (map (λ (pair : ℕ × ℤ). pair.0) ps) p.0
    mapped [] p has = absurd (none-there p has)
    mapped (q ∷ ps) p has =
        elim (front-or-behind q ps p has) [
          | inl is ↦ subst (λ (r : ℕ × ℤ). Contains (q.0 ∷ map (λ (pair : ℕ × ℤ). pair.0) ps) r.0) is (at-front q.0 (map (λ (pair : ℕ × ℤ). pair.0) ps))
          | inr more ↦ behind q.0 (map (λ (pair : ℕ × ℤ). pair.0) ps) p.0 (mapped ps p more)
        ]

-- all leaf cells are listed
pub leaf_cells-has : (space : Layout) (c : ℕ) → IsCell space c → is_leaf_cell space c ≡ true → Contains (leaf_cells space) c
unfolding leaf_cells
leaf_cells-has space c cell leaf =
    kept (range_with_len 0 (size_of space)) c (c, omega (arith, cell, length-range_with_len 0 (size_of space)), get_or-range_with_len 0 (size_of space) c c cell ∙ zero-add c) leaf
  where
    kept : (xs : List ℕ) (c : ℕ) → Contains xs c → is_leaf_cell space c ≡ true → Contains (filter (is_leaf_cell space) xs) c
    kept [] c has on = absurd (none-there c has)
    kept (x ∷ xs) c has on =
        elim (front-or-behind x xs c has) [
          | inl is ↦ (let here : is_leaf_cell space x ≡ true = ap (is_leaf_cell space) is ∙ on in
              rw here (subst (Contains (x ∷ filter (is_leaf_cell space) xs)) is (at-front x (filter (is_leaf_cell space) xs))))
          | inr more ↦ (let later = kept xs c more on in
              cond_both (is_leaf_cell space x) (x ∷ filter (is_leaf_cell space) xs) (filter (is_leaf_cell space) xs) (λ (ys : List ℕ). Contains ys c)
              (λ on. behind x (filter (is_leaf_cell space) xs) c later) (λ off. later))
        ]

-- ---- cells

-- a cell of these elements
pub record IsAt (space : Layout) (cube : ℕ) (elements : List ℕ) (c : ℕ) : Type 0 where
  pub cell : IsCell space c
  pub own : cube_of space c ≡ cube
  pub its : elements_of space c ≡ elements

pub number-at : (space : Layout) (cube : ℕ) (elements : List ℕ) (c : ℕ) → cell_number space cube elements ≡ Some c → IsAt space cube elements c
unfolding cell_number
number-at space cube elements c is =
    let parts = cond_some (is_place space cube elements) (place_number space cube elements) c is in
    let place = is_place-parts space cube elements parts.0 in
    let same = cell_at-place space cube elements place in
    subst (IsAt space cube elements) parts.1 (record { cell = place-within space cube elements place; own = ap (λ at. at.cube) same; its = ap (λ at. at.elements) same })

pub cell-leaves : (space : Layout) (c : ℕ) → is_leaf_cell space c ≡ true → are_leaves (axes space (cube_of space c)) (elements_of space c) ≡ true
unfolding is_leaf_cell
cell-leaves space c leaf = leaf

-- ---- the leaf cells that a cell means

module _ (space : Layout) (t : ℕ) where
  pub weight-product : (c : ℕ) → cube_of space c ≡ cube_of space t → weight space t c ≡ coef_product (axes space (cube_of space t)) (elements_of space t) (elements_of space c)
  unfolding weight
  weight-product c own = rw own (rw (eq-eqb (cube_of space t) (cube_of space t) refl) refl)

module _ (m : BoundModel) (t : ℕ) where
  pub leaf-stands : is_leaf_cell m.space t ≡ true → (c : ℕ) → t ≡ c → Contains (leaves_of (system_of m) t) c
  unfolding system_of
  leaf-stands leaf c is = rw leaf (subst (Contains (t ∷ [])) is (at-front t []))

  pub stands-leaf : is_leaf_cell m.space t ≡ true → (c : ℕ) → Contains (leaves_of (system_of m) t) c → t ≡ c
  unfolding system_of
  stands-leaf leaf c has =
      elim (front-or-behind t [] c (rw leaf at has)) [
        | inl is ↦ is
        | inr none ↦ absurd (none-there c none)
      ]
