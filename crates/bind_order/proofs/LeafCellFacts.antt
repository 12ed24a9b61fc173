-- The test of all cells decides whether no leaf cell comes behind a consolidated cell in which it counts.
use Rattle.std.proofs.Common.{◌≡◌, ◌<◌, ◌≤◌, ◌⊎◌, inl, inr, ℕ, zero, suc, Bool, true, false, not, ◌&&◌, ◌||◌, List, [], ◌∷◌, length, refl, sym, ap, ◌∙◌, arith, get_or, nat_lt, ◌==◌}
use Rattle.std.specs.List.{list_all}
use Rattle.std.proofs.lemmas.Bool.{and_parts, and_from, or_left, or_right, or_cases, ltb-true, lt-ltb, eqb-true, eq-eqb, cases_lt, cases_order, not-true}
use Rattle.std.proofs.lemmas.List.FromFn.{length-map-range_with_len, get_or-map-range_with_len}
use Rattle.std.proofs.lemmas.List.Sums.{AllPass-from_list_all, list_all-from_AllPass}
use Rattle.dim_core.specs.Outline.{Outline}
use Rattle.dim_weights.specs.Table.{is_nonzero}
use Rattle.dim_weights.proofs.Nonzero.{nonzero-counts, counts-nonzero}
use Rattle.cube_space.specs.Layout.{sizes_of}
use Rattle.cube_space.specs.Cells.{are_leaves}
use Rattle.cube_space.specs.Radix.{are_digits, all_digits, number_of}
use Rattle.cube_space.proofs.Radix.{length-all_digits, all_digits-at, number-below, number-digits}
use Rattle.rule_model.specs.declared.order.Order.{Order}
use Rattle.rule_model.specs.Weights.{coef_product}
use Rattle.rule_model.specs.Order.{most_positions, position_in, number_by}
use Rattle.rule_model.specs.Conditions.{IsLeafBelow, HoldsLeafCells}
use Rattle.bind_order.specs.LeafCells.{numbers_in, is_at_most, is_leaf_below, holds_leaf_cells}

-- what is true of all lists of digits
digits-all : (test : List ℕ → Bool) (sizes digits : List ℕ) → list_all test (all_digits sizes) ≡ true → are_digits sizes digits ≡ true → test digits ≡ true
digits-all test sizes digits all are =
    let low : number_of sizes digits < length (all_digits sizes) = omega (arith, length-all_digits sizes, number-below sizes digits are) in
    ap test (sym (all_digits-at sizes digits [] are)) ∙ AllPass-from_list_all test (all_digits sizes) all (number_of sizes digits) [] low

all-digits : (test : List ℕ → Bool) (sizes : List ℕ) → ((digits : List ℕ) → are_digits sizes digits ≡ true → test digits ≡ true) → list_all test (all_digits sizes) ≡ true
all-digits test sizes each = list_all-from_AllPass test (all_digits sizes) (λ k d low.
    let (digits, are, is) = number-digits sizes k (omega (arith, low, length-all_digits sizes)) in
    ap test (ap (λ n. get_or (all_digits sizes) n d) (sym is) ∙ all_digits-at sizes digits d are) ∙ each digits are)

-- numbers that are at most others are no greater at the first place at which both differ
at_most-at : (xs ys : List ℕ) (place : ℕ) → length xs ≡ length ys → is_at_most xs ys ≡ true → ((k : ℕ) → k < place → get_or xs k 0 ≡ get_or ys k 0) → get_or xs place 0 ≤ get_or ys place 0
at_most-at [] [] place long most same = omega arith
at_most-at [] (y ∷ ys) place long most same = absurd (omega (arith, long))
at_most-at (x ∷ xs) [] place long most same = absurd (omega (arith, long))
at_most-at (x ∷ xs) (y ∷ ys) zero long most same = by (or_cases (nat_lt x y) ((x == y) && is_at_most xs ys) most)
  where
    by : (nat_lt x y ≡ true) ⊎ (((x == y) && is_at_most xs ys) ≡ true) → x ≤ y
    by (inl less) = let low = ltb-true x y less in omega (arith, low)
    by (inr both) = let e = eqb-true x y (and_parts (x == y) (is_at_most xs ys) both).0 in omega (arith, e)
at_most-at (x ∷ xs) (y ∷ ys) (suc place) long most same = by (λ rest. at_most-at xs ys place (omega (arith, long)) rest (λ k low. same (suc k) (omega (arith, low)))) (or_cases (nat_lt x y) ((x == y) && is_at_most xs ys) most)
  where
    first : x ≡ y
    first = same 0 (omega arith)

    by : (is_at_most xs ys ≡ true → get_or xs place 0 ≤ get_or ys place 0) → (nat_lt x y ≡ true) ⊎ (((x == y) && is_at_most xs ys) ≡ true) → get_or xs place 0 ≤ get_or ys place 0
    by later (inl less) = absurd (let low = ltb-true x y less in omega (arith, low, first))
    by later (inr both) = later (and_parts (x == y) (is_at_most xs ys) both).1

at_most-from : (xs ys : List ℕ) → length xs ≡ length ys → ((place : ℕ) → place < length xs → ((k : ℕ) → k < place → get_or xs k 0 ≡ get_or ys k 0) → get_or xs place 0 ≤ get_or ys place 0) → is_at_most xs ys ≡ true
at_most-from [] ys long each = refl
at_most-from (x ∷ xs) [] long each = absurd (omega (arith, long))
at_most-from (x ∷ xs) (y ∷ ys) long each = by (λ same. at_most-from xs ys (omega (arith, long)) (later same)) (cases_order x y)
  where
    first : x ≤ y
    first = each 0 (omega arith) (λ k low. absurd (omega (arith, low)))

    later : x ≡ y → (place : ℕ) → place < length xs → ((k : ℕ) → k < place → get_or xs k 0 ≡ get_or ys k 0) → get_or xs place 0 ≤ get_or ys place 0
    later same place low before = each (suc place) (omega (arith, low)) front
      where
        front : (k : ℕ) → k < suc place → get_or (x ∷ xs) k 0 ≡ get_or (y ∷ ys) k 0
        front zero low = same
        front (suc k) low = before k (omega (arith, low))

    by : (x ≡ y → is_at_most xs ys ≡ true) → (x ≡ y) ⊎ ((x < y) ⊎ (y < x)) → (nat_lt x y || ((x == y) && is_at_most xs ys)) ≡ true
    by rest (inl same) = or_right (nat_lt x y) _ (and_from _ _ (eq-eqb x y same) (rest same))
    by rest (inr (inl less)) = or_left (nat_lt x y) _ (lt-ltb x y less)
    by rest (inr (inr more)) = absurd (omega (arith, first, more))

module _ (ds : List Outline) (order : Order) (past : (kind : Bool) (place : ℕ) (elements : List ℕ) → most_positions ≤ place → number_by (position_in order kind place) elements ≡ 0) where
  number : Bool → List ℕ → ℕ → ℕ
  number kind elements place = number_by (position_in order kind place) elements

  numbers-at : (kind : Bool) (elements : List ℕ) (place : ℕ) → place < most_positions → get_or (numbers_in order kind elements) place 0 ≡ number_by (position_in order kind place) elements
  numbers-at kind elements place low = get_or-map-range_with_len (λ k. number_by (position_in order kind k) elements) 0 most_positions place place 0 low (omega arith)

  numbers-long : (leaf cell : List ℕ) → length (numbers_in order true leaf) ≡ length (numbers_in order false cell)
  numbers-long leaf cell =
      length-map-range_with_len (λ k. number_by (position_in order true k) leaf) 0 most_positions ∙ sym (length-map-range_with_len (λ k. number_by (position_in order false k) cell) 0 most_positions)

  -- where the test is true, no leaf cell is behind
  pub holds-from : holds_leaf_cells ds order ≡ true → HoldsLeafCells ds order
  unfolding holds_leaf_cells
  holds-from all cell leaf place below before = by (cases_lt place most_positions)
    where
      behind : List ℕ → List ℕ → Bool
      behind c l = not (is_leaf_below ds c l) || is_at_most (numbers_in order true l) (numbers_in order false c)

      is : is_leaf_below ds cell leaf ≡ true
      is = and_from _ _ (and_from _ _ (ap not below.total) below.leaves) (counts-nonzero (coef_product ds cell leaf) below.counts)

      tested : behind cell leaf ≡ true
      tested = digits-all (behind cell) (sizes_of ds) leaf (digits-all (λ c. list_all (behind c) (all_digits (sizes_of ds))) (sizes_of ds) cell all below.cell) below.leaf

      most : is_at_most (numbers_in order true leaf) (numbers_in order false cell) ≡ true
      most = ap (λ b. not b || is_at_most (numbers_in order true leaf) (numbers_in order false cell)) (sym is) ∙ tested

      by : (place < most_positions) ⊎ (most_positions ≤ place) → number_by (position_in order true place) leaf ≤ number_by (position_in order false place) cell
      by (inl low) =
          let least = at_most-at (numbers_in order true leaf) (numbers_in order false cell) place (numbers-long leaf cell) most
          (λ k less. numbers-at true leaf k (omega (arith, less, low)) ∙ before k less ∙ sym (numbers-at false cell k (omega (arith, less, low)))) in
          omega (arith, least, numbers-at true leaf place low, numbers-at false cell place low)
      by (inr high) = omega (arith, past true place leaf high, past false place cell high)

  -- and where none is, it is true
  pub holds-back : HoldsLeafCells ds order → holds_leaf_cells ds order ≡ true
  unfolding holds_leaf_cells
  holds-back none = all-digits _ (sizes_of ds) (λ cell upper. all-digits _ (sizes_of ds) (λ leaf lower. each cell leaf upper lower))
    where
      each : (cell leaf : List ℕ) → are_digits (sizes_of ds) cell ≡ true → are_digits (sizes_of ds) leaf ≡ true
          → (not (is_leaf_below ds cell leaf) || is_at_most (numbers_in order true leaf) (numbers_in order false cell)) ≡ true
      each cell leaf upper lower = by (is_leaf_below ds cell leaf) refl
        where
          by : (b : Bool) → is_leaf_below ds cell leaf ≡ b → (not (is_leaf_below ds cell leaf) || is_at_most (numbers_in order true leaf) (numbers_in order false cell)) ≡ true
          by false other = or_left _ _ (ap not other)
          by true is = or_right (not (is_leaf_below ds cell leaf)) _ (at_most-from (numbers_in order true leaf) (numbers_in order false cell) (numbers-long leaf cell) (λ place low before.
              let here : place < most_positions = omega (arith, low, length-map-range_with_len (λ k. number_by (position_in order true k) leaf) 0 most_positions) in
              let least = none cell leaf place below (λ k less. sym (numbers-at true leaf k (omega (arith, less, here))) ∙ before k less ∙ numbers-at false cell k (omega (arith, less, here))) in
              omega (arith, least, numbers-at true leaf place here, numbers-at false cell place here)))
            where
              first : ((not (are_leaves ds cell) && are_leaves ds leaf) ≡ true) × (is_nonzero (coef_product ds cell leaf) ≡ true)
              first = and_parts (not (are_leaves ds cell) && are_leaves ds leaf) (is_nonzero (coef_product ds cell leaf)) is

              last : (not (are_leaves ds cell) ≡ true) × (are_leaves ds leaf ≡ true)
              last = and_parts (not (are_leaves ds cell)) (are_leaves ds leaf) first.0

              below : IsLeafBelow ds cell leaf
              below = record {
                cell = upper;
                leaf = lower;
                total = not-true (are_leaves ds cell) last.0;
                leaves = last.1;
                counts = nonzero-counts (coef_product ds cell leaf) first.1;
              }
