-- The leaf cells of a cube are as many as the product of the numbers of leaves of its dimensions.
use Rattle.std.proofs.Common.{◌≡◌, refl, sym, ap, ◌∙◌, arith, ℕ, zero, suc, ◌+◌, ◌*◌, ◌<◌, ◌≤◌, ◌⊎◌, Bool, true, false, ◌&&◌, List, [], ◌∷◌, ◌++◌, length, map, get_or, filter, cond, ◌==◌, zero-mul, mul-le-mul, add-mul, inl, inr}
use Rattle.std.specs.List.{flat_map, range_with_len}
use Rattle.std.proofs.lemmas.Bool.{eq-eqb, ne_eqb, cases_lt}
use Rattle.std.proofs.lemmas.List.FromFn.{fill_by_all, length-range_with_len}
use Rattle.model_laws.proofs.Statements.{range-split}
use Rattle.dim_core.specs.Outline.{Outline}
use Rattle.cube_space.specs.Radix.{product, all_digits}
use Rattle.cube_space.specs.Layout.{Layout, axes, sizes, sizes_of}
use Rattle.cube_space.specs.Cells.{Cell, cells_of, all_cells, cell_at, cube_of, size_of, is_leaf, are_leaves, is_leaf_cell}
use Rattle.cube_space.proofs.Places.{length-all_cells}
use Rattle.rule_model.specs.Weights.{leaf_cells}
use Rattle.feed_check.specs.Sizes.{leaf_count}
use Rattle.feed_check.specs.Inside.Leaves.{leaf_elements}

-- how many pass
abbrev pub tally : {X : Type 0} → (X → Bool) → List X → ℕ
tally p xs = length (filter p xs)

module _ {X : Type 0} (p : X → Bool) where
  tally-yes : (x : X) (xs : List X) → p x ≡ true → tally p (x ∷ xs) ≡ 1 + tally p xs
  tally-yes x xs h = ap (λ t. length (cond t (x ∷ filter p xs) (filter p xs))) h ∙ (let e : suc (tally p xs) ≡ 1 + tally p xs = omega arith in e)

  tally-no : (x : X) (xs : List X) → p x ≡ false → tally p (x ∷ xs) ≡ tally p xs
  tally-no x xs h = ap (λ t. length (cond t (x ∷ filter p xs) (filter p xs))) h

  pub tally-append : (xs ys : List X) → tally p (xs ++ ys) ≡ tally p xs + tally p ys
  tally-append [] ys = omega arith
  tally-append (x ∷ xs) ys = by (p x) refl (tally-append xs ys)
    where
      by : (t : Bool) → p x ≡ t → tally p (xs ++ ys) ≡ tally p xs + tally p ys → tally p (x ∷ (xs ++ ys)) ≡ tally p (x ∷ xs) + tally p ys
      by true e rest = omega (arith, rest, tally-yes x (xs ++ ys) e, tally-yes x xs e)
      by false e rest = omega (arith, rest, tally-no x (xs ++ ys) e, tally-no x xs e)

  pub tally-none : (xs : List X) → ((x : X) → p x ≡ false) → tally p xs ≡ 0
  tally-none [] h = refl
  tally-none (x ∷ xs) h = tally-no x xs (h x) ∙ tally-none xs h

  pub tally-map : {Y : Type 0} (f : Y → X) (ys : List Y) → tally p (map f ys) ≡ tally (λ y. p (f y)) ys
  tally-map f [] = refl
  tally-map f (y ∷ ys) = by (p (f y)) refl (tally-map f ys)
    where
      by : (t : Bool) → p (f y) ≡ t → tally p (map f ys) ≡ tally (λ y. p (f y)) ys → tally p (f y ∷ map f ys) ≡ tally (λ y. p (f y)) (y ∷ ys)
      by true e rest = ap (λ t. length (cond t (f y ∷ filter p (map f ys)) (filter p (map f ys)))) e ∙ ap suc rest ∙ sym (ap (λ t. length (cond t (y ∷ filter (λ y. p (f y)) ys) (filter (λ y. p (f y)) ys))) e)
      by false e rest = ap (λ t. length (cond t (f y ∷ filter p (map f ys)) (filter p (map f ys)))) e ∙ rest ∙ sym (ap (λ t. length (cond t (y ∷ filter (λ y. p (f y)) ys) (filter (λ y. p (f y)) ys))) e)

  pub tally-same : (q : X → Bool) (xs : List X) → ((x : X) → p x ≡ q x) → tally p xs ≡ tally q xs
  tally-same q [] h = refl
  tally-same q (x ∷ xs) h = by (p x) refl (tally-same q xs h)
    where
      by : (t : Bool) → p x ≡ t → tally p xs ≡ tally q xs → tally p (x ∷ xs) ≡ tally q (x ∷ xs)
      by true e rest = ap (λ t. length (cond t (x ∷ filter p xs) (filter p xs))) e ∙ ap suc rest ∙ sym (ap (λ t. length (cond t (x ∷ filter q xs) (filter q xs))) (sym (h x) ∙ e))
      by false e rest = ap (λ t. length (cond t (x ∷ filter p xs) (filter p xs))) e ∙ rest ∙ sym (ap (λ t. length (cond t (x ∷ filter q xs) (filter q xs))) (sym (h x) ∙ e))

  pub tally-both : (q : X → Bool) (xs : List X) → tally p (filter q xs) ≡ tally (λ x. q x && p x) xs
  tally-both q [] = refl
  tally-both q (x ∷ xs) = by (q x) refl (tally-both q xs)
    where
      rest-of : (t : Bool) → ℕ
      rest-of t = length (cond (t && p x) (x ∷ filter (λ x. q x && p x) xs) (filter (λ x. q x && p x) xs))

      inner : (t : Bool) → tally p (filter q xs) ≡ tally (λ x. q x && p x) xs → length (cond t (x ∷ filter p (filter q xs)) (filter p (filter q xs))) ≡ length (cond t (x ∷ filter (λ x. q x && p x) xs) (filter (λ x. q x && p x) xs))
      inner true rest = ap suc rest
      inner false rest = rest

      by : (t : Bool) → q x ≡ t → tally p (filter q xs) ≡ tally (λ x. q x && p x) xs → length (filter p (cond (q x) (x ∷ filter q xs) (filter q xs))) ≡ rest-of (q x)
      by true e rest = ap (λ t. length (filter p (cond t (x ∷ filter q xs) (filter q xs)))) e ∙ inner (p x) rest ∙ sym (ap rest-of e)
      by false e rest = ap (λ t. length (filter p (cond t (x ∷ filter q xs) (filter q xs)))) e ∙ rest ∙ sym (ap rest-of e)

-- ---- digits

-- the first digit chooses among the same others
head-digits : (d : Outline) (ds : List Outline) (rest : List (List ℕ)) (a n : ℕ)
    → tally (are_leaves (d ∷ ds)) (flat_map (λ digit. map (λ digits. digit ∷ digits) rest) (range_with_len a n)) ≡ tally (is_leaf d) (range_with_len a n) * tally (are_leaves ds) rest
head-digits d ds rest a zero = sym (zero-mul (tally (are_leaves ds) rest))
head-digits d ds rest a (suc n) = by (is_leaf d a) refl (head-digits d ds rest (a + 1) n)
  where
    these : tally (are_leaves (d ∷ ds)) (map (λ digits. a ∷ digits) rest) ≡ tally (λ digits. is_leaf d a && are_leaves ds digits) rest
    these = tally-map (are_leaves (d ∷ ds)) (λ digits. a ∷ digits) rest

    those : List (List ℕ)
    those = flat_map (λ digit. map (λ digits. digit ∷ digits) rest) (range_with_len (a + 1) n)

    split : tally (are_leaves (d ∷ ds)) (map (λ digits. a ∷ digits) rest ++ those) ≡ tally (are_leaves (d ∷ ds)) (map (λ digits. a ∷ digits) rest) + tally (are_leaves (d ∷ ds)) those
    split = tally-append (are_leaves (d ∷ ds)) (map (λ digits. a ∷ digits) rest) those

    more : (x y z : ℕ) → z ≡ 1 + x → y + x * y ≡ z * y
    more x y z e = ap (λ n. n + x * y) (let one : y ≡ 1 * y = omega arith in one) ∙ sym (add-mul 1 x y) ∙ ap (λ n. n * y) (sym e)

    by : (t : Bool) → is_leaf d a ≡ t → tally (are_leaves (d ∷ ds)) those ≡ tally (is_leaf d) (range_with_len (a + 1) n) * tally (are_leaves ds) rest
        → tally (are_leaves (d ∷ ds)) (map (λ digits. a ∷ digits) rest ++ those) ≡ tally (is_leaf d) (a ∷ range_with_len (a + 1) n) * tally (are_leaves ds) rest
    by true e tail =
        let first : tally (λ digits. is_leaf d a && are_leaves ds digits) rest ≡ tally (are_leaves ds) rest = tally-same (λ digits. is_leaf d a && are_leaves ds digits) (are_leaves ds) rest (λ digits. ap (λ t. t && are_leaves ds digits) e) in
        split ∙ ap (λ n. n + tally (are_leaves (d ∷ ds)) those) (these ∙ first) ∙ ap (λ n. tally (are_leaves ds) rest + n) tail
        ∙ more (tally (is_leaf d) (range_with_len (a + 1) n)) (tally (are_leaves ds) rest) (tally (is_leaf d) (a ∷ range_with_len (a + 1) n)) (tally-yes (is_leaf d) a (range_with_len (a + 1) n) e)
    by false e tail =
        let first : tally (λ digits. is_leaf d a && are_leaves ds digits) rest ≡ 0 = tally-none (λ digits. is_leaf d a && are_leaves ds digits) rest (λ digits. ap (λ t. t && are_leaves ds digits) e) in
        split ∙ ap (λ n. n + tally (are_leaves (d ∷ ds)) those) (these ∙ first) ∙ (let none : 0 + tally (are_leaves (d ∷ ds)) those ≡ tally (are_leaves (d ∷ ds)) those = omega arith in none) ∙ tail
        ∙ ap (λ n. n * tally (are_leaves ds) rest) (sym (tally-no (is_leaf d) a (range_with_len (a + 1) n) e))

digits-tally : (ds : List Outline) → tally (are_leaves ds) (all_digits (sizes_of ds)) ≡ product (map leaf_elements ds)
digits-tally [] = refl
digits-tally (d ∷ ds) = head-digits d ds (all_digits (sizes_of ds)) 0 (length d.elements) ∙ ap (λ n. leaf_elements d * n) (digits-tally ds)

-- ---- cells

module _ (space : Layout) (cube : ℕ) where
  -- a leaf cell of the cube
  abbrev IsHere : Cell → Bool
  IsHere cell = are_leaves (axes space cell.cube) cell.elements && (cell.cube == cube)

  own-cells : tally IsHere (cells_of space cube) ≡ product (map leaf_elements (axes space cube))
  own-cells =
      tally-map IsHere (λ elements. record { cube = cube; elements = elements }) (all_digits (sizes space cube))
      ∙ tally-same (λ elements. are_leaves (axes space cube) elements && (cube == cube)) (are_leaves (axes space cube)) (all_digits (sizes space cube)) (λ elements. and-yes (are_leaves (axes space cube) elements) (cube == cube) (eq-eqb cube cube refl))
      ∙ digits-tally (axes space cube)
    where
      and-yes : (t u : Bool) → u ≡ true → t && u ≡ t
      and-yes true u h = h
      and-yes false u h = refl

  other-cells : (k : ℕ) → (k ≡ cube → ⊥) → tally IsHere (cells_of space k) ≡ 0
  other-cells k other =
      tally-map IsHere (λ elements. record { cube = k; elements = elements }) (all_digits (sizes space k))
      ∙ tally-none (λ elements. are_leaves (axes space k) elements && (k == cube)) (all_digits (sizes space k)) (λ elements. and-no (are_leaves (axes space k) elements) (k == cube) (ne_eqb k cube other))
    where
      and-no : (t u : Bool) → u ≡ false → t && u ≡ false
      and-no true u h = h
      and-no false u h = refl

  none-behind : (a n : ℕ) → cube < a → tally IsHere (flat_map (cells_of space) (range_with_len a n)) ≡ 0
  none-behind a zero low = refl
  none-behind a (suc n) low =
      omega (arith, tally-append IsHere (cells_of space a) (flat_map (cells_of space) (range_with_len (a + 1) n)), other-cells a (λ same. omega (arith, low, same)), none-behind (a + 1) n (omega (arith, low)))

  among : (a n : ℕ) → a ≤ cube → cube < a + n → tally IsHere (flat_map (cells_of space) (range_with_len a n)) ≡ product (map leaf_elements (axes space cube))
  among a zero from low = absurd (omega (arith, from, low))
  among a (suc n) from low = by (cases_lt a cube) (among (a + 1) n)
    where
      split : tally IsHere (cells_of space a ++ flat_map (cells_of space) (range_with_len (a + 1) n)) ≡ tally IsHere (cells_of space a) + tally IsHere (flat_map (cells_of space) (range_with_len (a + 1) n))
      split = tally-append IsHere (cells_of space a) (flat_map (cells_of space) (range_with_len (a + 1) n))

      by : (a < cube) ⊎ (cube ≤ a) → (a + 1 ≤ cube → cube < a + 1 + n → tally IsHere (flat_map (cells_of space) (range_with_len (a + 1) n)) ≡ product (map leaf_elements (axes space cube)))
          → tally IsHere (cells_of space a ++ flat_map (cells_of space) (range_with_len (a + 1) n)) ≡ product (map leaf_elements (axes space cube))
      by (inl before) rest = omega (arith, split, other-cells a (λ same. omega (arith, before, same)), rest (omega (arith, before)) (omega (arith, low)))
      by (inr after) rest =
          let same : cube ≡ a = omega (arith, from, after) in
          let own : tally IsHere (cells_of space a) ≡ product (map leaf_elements (axes space cube)) = ap (λ k. tally IsHere (cells_of space k)) (sym same) ∙ own-cells in
          omega (arith, split, own, none-behind (a + 1) n (omega (arith, same)))

  -- the cells by number are the cells in their order
  by-number : tally (λ c. is_leaf_cell space c && (cube_of space c == cube)) (range_with_len 0 (size_of space)) ≡ tally IsHere (all_cells space)
  unfolding is_leaf_cell cell_at
  by-number =
      let none : Cell = record { cube = 0; elements = [] } in
      sym (tally-map IsHere (λ n. get_or (all_cells space) n none) (range_with_len 0 (size_of space)))
      ∙ ap (tally IsHere) (sym (fill_by_all (λ n. get_or (all_cells space) n none) (all_cells space) (size_of space) none (length-all_cells space) (λ k low. refl)))

  pub leaf-count : cube < length space.cubes → leaf_count space cube ≡ product (map leaf_elements (axes space cube))
  unfolding leaf_count leaf_cells all_cells
  leaf-count there =
      tally-both (λ c. cube_of space c == cube) (is_leaf_cell space) (range_with_len 0 (size_of space)) ∙ by-number
      ∙ among 0 (length space.cubes) (omega arith) (omega (arith, there))

-- ---- one element more, and bounds

pub tally-next : (p : ℕ → Bool) (count next e j : ℕ) (b : Bool) → count ≡ tally p (range_with_len 0 e) → b ≡ p e → next ≡ count + cond b 1 0 → j ≡ e + 1 → next ≡ tally p (range_with_len 0 j)
tally-next p count next e j b counted is more last =
    more ∙ ap (λ n. n + cond b 1 0) counted ∙ ap (λ n. tally p (range_with_len 0 e) + n) (one b is) ∙ sym (tally-append p (range_with_len 0 e) (range_with_len (0 + e) 1))
    ∙ ap (tally p) (sym (range-split 0 e 1)) ∙ ap (λ n. tally p (range_with_len 0 n)) (sym last)
  where
    own : 0 + e ≡ e
    own = omega arith

    one : (b : Bool) → b ≡ p e → cond b 1 0 ≡ tally p (range_with_len (0 + e) 1)
    one true is = sym (tally-yes p (0 + e) [] (ap p own ∙ sym is))
    one false is = sym (tally-no p (0 + e) [] (ap p own ∙ sym is))

tally-low : {X : Type 0} (p : X → Bool) (xs : List X) → tally p xs ≤ length xs
tally-low p [] = omega arith
tally-low p (x ∷ xs) = by (p x) refl (tally-low p xs)
  where
    by : (t : Bool) → p x ≡ t → tally p xs ≤ length xs → tally p (x ∷ xs) ≤ suc (length xs)
    by true e rest = omega (arith, rest, tally-yes p x xs e)
    by false e rest = omega (arith, rest, tally-no p x xs e)

product-below : (ds : List Outline) → product (map leaf_elements ds) ≤ product (sizes_of ds)
product-below [] = omega arith
product-below (d ∷ ds) = mul-le-mul (omega (arith, tally-low (is_leaf d) (range_with_len 0 (length d.elements)), length-range_with_len 0 (length d.elements))) (product-below ds)

pub leaf-count_none : (space : Layout) (cube : ℕ) → cube < length space.cubes → product (sizes space cube) ≡ 0 → 0 ≡ leaf_count space cube
leaf-count_none space cube there none = omega (arith, leaf-count space cube there, product-below (axes space cube), none)
