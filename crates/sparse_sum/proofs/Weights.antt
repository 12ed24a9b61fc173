-- The weight of a leaf cell, by its number among the cells of its cube.
use Rattle.std.proofs.Common.{◌≡◌, ◌≢◌, ◌∙◌, refl, sym, ap, subst, arith, ℕ, ◌+◌, ◌*◌, ◌%◌, ◌<◌, ◌≤◌, suc, inl, inr, true, eqb, nat_lt, ℤ, pos, ◌*ℤ◌, List, [], ◌∷◌, length}
use Rattle.std.specs.List.{All}
use Rattle.std.proofs.Math.IntN.{*ℤ-zero, zero-*ℤ}
use Rattle.std.proofs.lemmas.Bool.{and_parts, ltb-true, eq-eqb, cases_lt}
use Rattle.std.proofs.lemmas.List.Elements.{All-head, All-tail}
use Rattle.std.proofs.lemmas.Nat.{div-mul-add, mod-mul-add}
use Rattle.dim_core.specs.Outline.{Outline, IsDimension, IsElement, components_of}
use Rattle.dim_weights.specs.Coefficients.{coef}
use Rattle.dim_weights.specs.Table.{is_nonzero}
use Rattle.dim_weights.proofs.Equations.{only-leaves}
use Rattle.cube_space.specs.Radix.{product, are_digits, number_of}
use Rattle.cube_space.specs.Layout.{Layout, axes, sizes, sizes_of}
use Rattle.cube_space.specs.Cells.{IsSpace, IsCell, cube_of, elements_of, cell_count, first_cell, is_leaf, are_leaves, is_leaf_cell}
use Rattle.cube_space.proofs.Radix.{number-below}
use Rattle.cube_space.proofs.Places.{cell-place, first_cell-next, first_cell-least, run_within}
use Rattle.rule_model.specs.Weights.{coef_product, weight}
use Rattle.model_laws.proofs.Below.{weight-counted}
use Rattle.model_laws.proofs.Levels.{axes-are}
use Rattle.model_laws.proofs.Placed.{weight-other}
use Rattle.sparse_sum.specs.Inside.Numbers.{weight_at}

-- by the digits of the number
weight_at-number : (ds : List Outline) (cell leaf : List ℕ) → are_digits (sizes_of ds) leaf ≡ true → weight_at ds cell (number_of (sizes_of ds) leaf) ≡ coef_product ds cell leaf
weight_at-number [] cell leaf are = refl
weight_at-number (d ∷ ds) [] leaf are = refl
weight_at-number (d ∷ ds) (e ∷ cell) [] are = absurd (cc)
weight_at-number (d ∷ ds) (e ∷ cell) (l ∷ leaf) are =
    let parts = and_parts (nat_lt l (length d.elements)) (are_digits (sizes_of ds) leaf) are in
    let below = number-below (sizes_of ds) leaf parts.1 in
    let row = div-mul-add l (product (sizes_of ds)) (number_of (sizes_of ds) leaf) below in
    let place = mod-mul-add l (product (sizes_of ds)) (number_of (sizes_of ds) leaf) below in
    ap (λ (n : ℕ). coef d e n *ℤ weight_at ds cell ((l * product (sizes_of ds) + number_of (sizes_of ds) leaf) % product (sizes_of ds))) row
    ∙ ap (λ (n : ℕ). coef d e l *ℤ weight_at ds cell n) place
    ∙ ap (λ (z : ℤ). coef d e l *ℤ z) (weight_at-number ds cell leaf parts.1)

module _ (space : Layout) (cell : ℕ) where
  -- a cell lies in the run of its cube
  in-run : (x : ℕ) → IsCell space x → (first_cell space (cube_of space x) ≤ x) × (x < first_cell space (cube_of space x) + cell_count space (cube_of space x))
  in-run x here =
      let has = cell-place space x here in
      let below = number-below (sizes space (cube_of space x)) (elements_of space x) has.place.digits in
      (omega (arith, has.number), omega (arith, has.number, below))

  -- and in no other
  run-is : (x cube : ℕ) → IsCell space x → first_cell space cube ≤ x → x < first_cell space cube + cell_count space cube → cube_of space x ≡ cube
  run-is x cube here low high =
      let own = in-run x here in
      let next = first_cell-next space cube in
      let next_own = first_cell-next space (cube_of space x) in
      elim (cases_lt cube (cube_of space x)) [
        | inl before ↦ (let le = first_cell-least space (suc cube) (cube_of space x) (omega (arith, before)) in absurd (omega (arith, le, next, high, own.0)))
        | inr from ↦ elim (cases_lt (cube_of space x) cube) [
          | inl after ↦ (let le = first_cell-least space (suc (cube_of space x)) cube (omega (arith, after)) in absurd (omega (arith, le, next_own, low, own.1)))
          | inr upto ↦ omega (arith, from, upto)
        ]
      ]

  weight-own : (x : ℕ) → cube_of space cell ≡ cube_of space x → weight space cell x ≡ coef_product (axes space (cube_of space cell)) (elements_of space cell) (elements_of space x)
  unfolding weight
  weight-own x same = let e = eq-eqb (cube_of space cell) (cube_of space x) same in rw e refl

  module _ (cube : ℕ) (own : cube ≡ cube_of space cell) where
    -- no cell outside the cube counts
    pub weight-outside : (x : ℕ) → IsCell space x → (first_cell space cube ≤ x → x < first_cell space cube + cell_count space cube → ⊥) → weight space cell x ≡ pos 0
    weight-outside x here out = weight-other space cell x (λ same. (
        let run = in-run x here in
        let e : cube_of space x ≡ cube = sym same ∙ sym own in
        let InRun : ℕ → Type 0 = λ (k : ℕ). (first_cell space k ≤ x) × (x < first_cell space k + cell_count space k) in
        let moved : (first_cell space cube ≤ x) × (x < first_cell space cube + cell_count space cube) = subst InRun e run in
        out moved.0 moved.1))

    pub weight-inside : (n : ℕ) → cube < length space.cubes → n < cell_count space cube → weight space cell (first_cell space cube + n) ≡ weight_at (axes space cube) (elements_of space cell) n
    weight-inside n there low =
        let x : ℕ = first_cell space cube + n in
        let within = run_within space cube there in
        let here : IsCell space x = omega (arith, within, low) in
        let is : cube_of space x ≡ cube = run-is x cube here (omega arith) (omega (arith, low)) in
        let has = cell-place space x here in
        let digits : are_digits (sizes space cube) (elements_of space x) ≡ true = subst (λ (k : ℕ). are_digits (sizes space k) (elements_of space x) ≡ true) is has.place.digits in
        let number : first_cell space cube + number_of (sizes space cube) (elements_of space x) ≡ x = subst (λ (k : ℕ). first_cell space k + number_of (sizes space k) (elements_of space x) ≡ x) is has.number in
        let e : number_of (sizes space cube) (elements_of space x) ≡ n = omega (arith, number) in
        weight-own x (sym own ∙ sym is)
        ∙ ap (λ (k : ℕ). coef_product (axes space k) (elements_of space cell) (elements_of space x)) (sym own)
        ∙ sym (weight_at-number (axes space cube) (elements_of space cell) (elements_of space x) digits)
        ∙ ap (λ (k : ℕ). weight_at (axes space cube) (elements_of space cell) k) e

-- ---- only leaf cells count

leaf-is : (d : Outline) (l : ℕ) → (components_of d l ≢ [] → ⊥) → is_leaf d l ≡ true
leaf-is d l none = by (components_of d l) refl
  where
    by : (parts : List (ℕ × ℤ)) → components_of d l ≡ parts → is_leaf d l ≡ true
    by [] is = ap (λ (ps : List (ℕ × ℤ)). eqb (length ps) 0) is
    by (part ∷ parts) is = absurd (none (λ empty. (let clash : [] ≡ part ∷ parts = sym empty ∙ is in cc)))

leaves-are : (ds : List Outline) (cell leaf : List ℕ) → All IsDimension ds → are_digits (sizes_of ds) cell ≡ true → (coef_product ds cell leaf ≡ pos 0 → ⊥) → are_leaves ds leaf ≡ true
leaves-are [] cell leaf dims are counted = refl
leaves-are (d ∷ ds) [] leaf dims are counted = absurd (cc)
leaves-are (d ∷ ds) (e ∷ cell) [] dims are counted = refl
leaves-are (d ∷ ds) (e ∷ cell) (l ∷ leaf) dims are counted =
    let parts = and_parts (nat_lt e (length d.elements)) (are_digits (sizes_of ds) cell) are in
    let element : IsElement d e = ltb-true e (length d.elements) parts.0 in
    let here : is_leaf d l ≡ true = leaf-is d l (λ some. counted (ap (λ (z : ℤ). z *ℤ coef_product ds cell leaf) (only-leaves d (All-head IsDimension d ds dims) l some e element) ∙ zero-*ℤ (coef_product ds cell leaf))) in
    let rest = leaves-are ds cell leaf (All-tail IsDimension d ds dims) parts.1 (λ none. counted (ap (λ (z : ℤ). coef d e l *ℤ z) none ∙ *ℤ-zero (coef d e l))) in
    rw (here, rest) refl

pub counted-leaf : (space : Layout) (cell x : ℕ) → IsSpace space → IsCell space cell → is_nonzero (weight space cell x) ≡ true → is_leaf_cell space x ≡ true
unfolding is_leaf_cell
counted-leaf space cell x valid here on =
    let counted = weight-counted space cell x on in
    let upper = (cell-place space cell here).place in
    let leaves = leaves-are (axes space (cube_of space cell)) (elements_of space cell) (elements_of space x) (axes-are space valid (cube_of space cell)) upper.digits counted.counts in
    subst (λ (k : ℕ). are_leaves (axes space k) (elements_of space x) ≡ true) counted.same_cube leaves
