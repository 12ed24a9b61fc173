-- What lies below a cell are leaf cells of its cube that rank no higher.
use Rattle.std.proofs.Common.{◌≡◌, refl, sym, ◌∙◌, ap, arith, subst, ℕ, ◌<◌, ◌≤◌, Bool, true, false, cond, ℤ, pos, ◌*ℤ◌, List, [], ◌∷◌, length, get_or, eqb, nat_lt}
use Rattle.std.specs.List.{All, range_with_len}
use Rattle.std.proofs.Math.IntN.{*ℤ-zero}
use Rattle.std.proofs.lemmas.Bool.{and_parts, ltb-true, cond_both, eqb-true}
use Rattle.std.proofs.lemmas.List.Elements.{All-head, All-tail, All-nil, All-cons, All-filter, filter_passes}
use Rattle.dim_core.specs.Outline.{Outline, IsDimension, IsElement, components_of}
use Rattle.dim_weights.specs.Coefficients.{coef, coef_over}
use Rattle.dim_weights.specs.Table.{is_nonzero, nonzero_among}
use Rattle.dim_weights.proofs.Equations.{coef-solves}
use Rattle.cube_space.specs.Radix.{are_digits}
use Rattle.cube_space.specs.Layout.{Layout, axes, sizes_of}
use Rattle.cube_space.specs.Cells.{IsSpace, IsCell, size_of, cube_of, elements_of, is_leaf, are_leaves, is_leaf_cell}
use Rattle.cube_space.proofs.Places.{cell-place, place_number}
use Rattle.rule_model.specs.BoundModel.{BoundModel}
use Rattle.rule_model.specs.Conditions.{AreRules, IsLeafBelow}
use Rattle.rule_model.specs.Weights.{coef_product, weight, leaf_cells, leaves_below}
use Rattle.rule_model.specs.Order.{position_of, number_by, number_at, rank}
use Rattle.rule_model.proofs.LeafCells.{coefs-counted}
use Rattle.model_laws.proofs.Levels.{axes-are}
use Rattle.model_laws.proofs.Ranks.{rank-behind_equal}
pub use Rattle.dim_weights.proofs.ByLevel.{range-within as range-below}

-- ---- weights

-- a cell with a weight other than 0 is of the same cube, and each of its elements counts
pub record IsCounted (space : Layout) (c leaf : ℕ) : Type 0 where
  pub same_cube : cube_of space c ≡ cube_of space leaf
  pub counts : coef_product (axes space (cube_of space c)) (elements_of space c) (elements_of space leaf) ≡ pos 0 → ⊥

pub weight-counted : (space : Layout) (c leaf : ℕ) → is_nonzero (weight space c leaf) ≡ true → IsCounted space c leaf
unfolding weight
weight-counted space c leaf on = by (eqb (cube_of space c) (cube_of space leaf)) refl
  where
    by : (b : Bool) → eqb (cube_of space c) (cube_of space leaf) ≡ b → IsCounted space c leaf
    by true same =
        let some : is_nonzero (coef_product (axes space (cube_of space c)) (elements_of space c) (elements_of space leaf)) ≡ true = rw same at on in
        record {
          same_cube = eqb-true (cube_of space c) (cube_of space leaf) same;
          counts = λ none. (let clash : is_nonzero (pos 0) ≡ true = ap is_nonzero (sym none) ∙ some in cc);
        }
    by false other = let none : is_nonzero (pos 0) ≡ true = rw other at on in absurd (cc)

-- ---- leaf cells below a leaf cell

-- a leaf counts in itself alone
leaf-alone : (d : Outline) → IsDimension d → (element leaf : ℕ) → IsElement d element → is_leaf d element ≡ true → (coef d element leaf ≡ pos 0 → ⊥) → element ≡ leaf
leaf-alone d dim element leaf here lowest counts = by (components_of d element) lowest (coef-solves d dim leaf element here)
  where
    same : (b : Bool) → eqb element leaf ≡ b → coef d element leaf ≡ cond b (pos 1) (pos 0) → element ≡ leaf
    same true is one = eqb-true element leaf is
    same false is none = absurd (counts none)

    by : (parts : List (ℕ × ℤ)) → eqb (length parts) 0 ≡ true → coef d element leaf ≡ coef_over leaf element (λ e. coef d e leaf) parts → element ≡ leaf
    by [] none is = same (eqb element leaf) refl is
    by (part ∷ parts) none is = absurd (omega (arith, eqb-true (length (part ∷ parts)) 0 none))

leaves-alone : (ds : List Outline) (cell leaf : List ℕ) → All IsDimension ds → are_digits (sizes_of ds) cell ≡ true → are_digits (sizes_of ds) leaf ≡ true → are_leaves ds cell ≡ true
    → (coef_product ds cell leaf ≡ pos 0 → ⊥) → cell ≡ leaf
leaves-alone [] [] [] dims upper lower leaves counted = refl
leaves-alone [] [] (l ∷ leaf) dims upper lower leaves counted = absurd (cc)
leaves-alone [] (e ∷ cell) leaf dims upper lower leaves counted = absurd (cc)
leaves-alone (d ∷ ds) [] leaf dims upper lower leaves counted = absurd (cc)
leaves-alone (d ∷ ds) (e ∷ cell) [] dims upper lower leaves counted = absurd (cc)
leaves-alone (d ∷ ds) (e ∷ cell) (l ∷ leaf) dims upper lower leaves counted =
    let above = and_parts (nat_lt e (length d.elements)) (are_digits (sizes_of ds) cell) upper in
    let under = and_parts (nat_lt l (length d.elements)) (are_digits (sizes_of ds) leaf) lower in
    let tests = and_parts (is_leaf d e) (are_leaves ds cell) leaves in
    let first : e ≡ l = leaf-alone d (All-head IsDimension d ds dims) e l (ltb-true e (length d.elements) above.0) tests.0 (coefs-counted (d ∷ ds) (e ∷ cell) (l ∷ leaf) 0 d counted refl) in
    let rest : cell ≡ leaf = leaves-alone ds cell leaf (All-tail IsDimension d ds dims) above.1 under.1 tests.1 (λ none. counted (ap (λ (z : ℤ). coef d e l *ℤ z) none ∙ *ℤ-zero (coef d e l))) in
    ap (λ x. x ∷ cell) first ∙ ap (λ xs. l ∷ xs) rest

-- ---- ranks

module _ (m : BoundModel) (valid : IsSpace m.space) (rules : AreRules m.space m.rules) (c leaf : ℕ) (cell : IsCell m.space c) (below : IsCell m.space leaf) (counted : IsCounted m.space c leaf) where
  abbrev dims : List Outline
  dims = axes m.space (cube_of m.space c)

  leaf-digits : are_digits (sizes_of dims) (elements_of m.space leaf) ≡ true
  leaf-digits = ap (λ cube. are_digits (sizes_of (axes m.space cube)) (elements_of m.space leaf)) counted.same_cube ∙ (cell-place m.space leaf below).place.digits

  -- below a leaf cell lies it alone
  same-cell : is_leaf_cell m.space c ≡ true → c ≡ leaf
  unfolding is_leaf_cell
  same-cell leaves =
      let elements : elements_of m.space c ≡ elements_of m.space leaf = leaves-alone dims (elements_of m.space c) (elements_of m.space leaf) (axes-are m.space valid (cube_of m.space c)) (cell-place m.space c cell).place.digits leaf-digits leaves counted.counts in
      sym (cell-place m.space c cell).number
      ∙ ap (λ cube. place_number m.space cube (elements_of m.space c)) counted.same_cube
      ∙ ap (place_number m.space (cube_of m.space leaf)) elements
      ∙ (cell-place m.space leaf below).number

  module _ (total : is_leaf_cell m.space c ≡ false) (leaves : is_leaf_cell m.space leaf ≡ true) where
    is-below : IsLeafBelow dims (elements_of m.space c) (elements_of m.space leaf)
    unfolding is_leaf_cell
    is-below = record {
      cell = (cell-place m.space c cell).place.digits;
      leaf = leaf-digits;
      total = total;
      leaves = ap (λ cube. are_leaves (axes m.space cube) (elements_of m.space leaf)) counted.same_cube ∙ leaves;
      counts = counted.counts;
    }

    abbrev number : Bool → ℕ → List ℕ → ℕ
    number kind place elements = number_by (position_of m (cube_of m.space c) kind place) elements

    leaf-number : (place : ℕ) → number_at m place leaf ≡ number true place (elements_of m.space leaf)
    unfolding number_at
    leaf-number place =
        ap (λ cube. number_by (position_of m cube (is_leaf_cell m.space leaf) place) (elements_of m.space leaf)) (sym counted.same_cube)
        ∙ ap (λ kind. number kind place (elements_of m.space leaf)) leaves

    total-number : (place : ℕ) → number_at m place c ≡ number false place (elements_of m.space c)
    unfolding number_at
    total-number place = ap (λ kind. number kind place (elements_of m.space c)) total

    -- a leaf cell has no greater number behind equal ones
    least-number : (place : ℕ) → ((p : ℕ) → p < place → number_at m p leaf ≡ number_at m p c) → number_at m place leaf ≤ number_at m place c
    least-number place before =
        let held = (rules.cube (cube_of m.space c) (cell-place m.space c cell).place.there).order.holds_leaf_cells (elements_of m.space c) (elements_of m.space leaf) place is-below
        (λ p less. sym (leaf-number p) ∙ before p less ∙ total-number p) in
        omega (arith, held, leaf-number place, total-number place)

  leaf-rank : is_leaf_cell m.space leaf ≡ true → rank m leaf ≤ rank m c
  leaf-rank leaves = by (is_leaf_cell m.space c) refl
    where
      by : (b : Bool) → is_leaf_cell m.space c ≡ b → rank m leaf ≤ rank m c
      by true lowest = subst (λ (x : ℕ). rank m x ≤ rank m c) (same-cell lowest) (omega arith)
      by false total = rank-behind_equal m leaf c below cell (least-number total leaves)

-- ---- lists

-- what holds of each leaf with a value other than 0 holds of those
pub among : (value : ℕ → ℤ) (P : ℕ × ℤ → Type 0) (leaves : List ℕ) → All (λ leaf. is_nonzero (value leaf) ≡ true → P (leaf, value leaf)) leaves → All P (nonzero_among value leaves)
among value P [] each = All-nil P
among value P (leaf ∷ leaves) each =
    let rest = among value P leaves (All-tail (λ leaf. is_nonzero (value leaf) ≡ true → P (leaf, value leaf)) leaf leaves each) in
    cond_both (is_nonzero (value leaf)) ((leaf, value leaf) ∷ nonzero_among value leaves) (nonzero_among value leaves) (All P)
    (λ on. All-cons P (leaf, value leaf) (nonzero_among value leaves) (All-head (λ leaf. is_nonzero (value leaf) ≡ true → P (leaf, value leaf)) leaf leaves each on) rest)
    (λ off. rest)

pub leaf_cells-are : (space : Layout) → All (λ leaf. IsCell space leaf × (is_leaf_cell space leaf ≡ true)) (leaf_cells space)
unfolding leaf_cells
leaf_cells-are space k d less = (
  All-filter (is_leaf_cell space) (λ x. x < size_of space) (range_with_len 0 (size_of space)) (range-below (size_of space)) k d less,
  filter_passes (is_leaf_cell space) (range_with_len 0 (size_of space)) k d less,
)

-- ---- what lies below

pub below-ranks : (m : BoundModel) → IsSpace m.space → AreRules m.space m.rules → (c : ℕ) → IsCell m.space c
    → All (λ pair. (IsCell m.space pair.0 × (is_leaf_cell m.space pair.0 ≡ true)) × (rank m pair.0 ≤ rank m c)) (leaves_below m.space c)
below-ranks m valid rules c cell =
    among (weight m.space c) (λ pair. (IsCell m.space pair.0 × (is_leaf_cell m.space pair.0 ≡ true)) × (rank m pair.0 ≤ rank m c)) (leaf_cells m.space)
    (λ k d less on.
    let leaf = leaf_cells-are m.space k d less in
    (leaf, leaf-rank m valid rules c (get_or (leaf_cells m.space) k d) cell leaf.0 (weight-counted m.space c (get_or (leaf_cells m.space) k d) on) leaf.1))
