-- How many of the leaf cells below a cell pass tests of their elements: the product, over the dimensions, of how many
-- leaves that count there pass.
use Rattle.std.proofs.Common.{◌≡◌, refl, sym, ap, ◌∙◌, arith, ℕ, zero, suc, ◌+◌, ◌*◌, ◌<◌, ◌≤◌, ◌⊎◌, inl, inr, Bool, true, false, ◌&&◌, cond, ltb, ◌==◌, ℤ, pos, ◌*ℤ◌, List, [], ◌∷◌, ◌++◌, length, map, filter, get_or, Some, zero-mul, if◌then◌else◌}
use Rattle.std.specs.Prelude.{slice_get}
use Rattle.std.specs.List.{flat_map, range_with_len, list_any}
use Rattle.std.proofs.lemmas.Bool.{and_parts, and_from, lt-ltb, ltb-true, cases_lt, eq-eqb, ne_eqb}
use Rattle.std.proofs.lemmas.Bool.Decides.{same_from_decides}
use Rattle.std.proofs.lemmas.List.FromFn.{fill_by_all}
use Rattle.dim_core.specs.Outline.{Outline, IsDimension, IsElement, components_of}
use Rattle.dim_weights.specs.Coefficients.{coef}
use Rattle.dim_weights.specs.Table.{is_nonzero, leaves_of}
use Rattle.dim_weights.proofs.Equations.{only-leaves}
use Rattle.dim_weights.proofs.Nonzero.{both-factors, first-factor, second-factor, nonzero-counts}
use Rattle.cube_space.specs.Radix.{are_digits, all_digits}
use Rattle.cube_space.specs.Layout.{Layout, axes, sizes, sizes_of}
use Rattle.cube_space.specs.Cells.{Cell, IsSpace, IsCell, cells_of, all_cells, cell_at, cube_of, elements_of, size_of, is_leaf, are_leaves, is_leaf_cell}
use Rattle.cube_space.proofs.Places.{length-all_cells, cell-place}
use Rattle.model_laws.proofs.Levels.{axis-is}
use Rattle.rule_model.specs.Weights.{coef_product, weight, leaf_cells, leaves_below}
use Rattle.cell_spread.specs.Spread.{cells_below}

-- ---- how many pass

abbrev pub tally : {X : Type 0} → (X → Bool) → List X → ℕ
tally p [] = 0
tally p (x ∷ xs) = cond (p x) 1 0 + tally p xs

module _ {X : Type 0} (p : X → Bool) where
  tally-append : (xs ys : List X) → tally p (xs ++ ys) ≡ tally p xs + tally p ys
  tally-append [] ys = omega arith
  tally-append (x ∷ xs) ys = let rest = tally-append xs ys in omega (arith, rest)

  pub tally-map : {Y : Type 0} (f : Y → X) (ys : List Y) → tally p (map f ys) ≡ tally (λ y. p (f y)) ys
  tally-map f [] = refl
  tally-map f (y ∷ ys) = ap (λ n. cond (p (f y)) 1 0 + n) (tally-map f ys)

  pub tally-same : (q : X → Bool) (xs : List X) → ((x : X) → p x ≡ q x) → tally p xs ≡ tally q xs
  tally-same q [] h = refl
  tally-same q (x ∷ xs) h = ap (λ b. cond b 1 0 + tally p xs) (h x) ∙ ap (λ n. cond (q x) 1 0 + n) (tally-same q xs h)

  tally-none : (xs : List X) → ((x : X) → p x ≡ false) → tally p xs ≡ 0
  tally-none [] h = refl
  tally-none (x ∷ xs) h = let rest = tally-none xs h in let off = h x in rw off (omega (arith, rest))

  tally-filter : (q : X → Bool) (xs : List X) → tally p (filter q xs) ≡ tally (λ x. q x && p x) xs
  tally-filter q [] = refl
  tally-filter q (x ∷ xs) = by (q x) refl (tally-filter q xs)
    where
      by : (b : Bool) → q x ≡ b → tally p (filter q xs) ≡ tally (λ x. q x && p x) xs → tally p (filter q (x ∷ xs)) ≡ tally (λ x. q x && p x) (x ∷ xs)
      by true on rest = rw on (ap (λ n. cond (p x) 1 0 + n) rest)
      by false off rest = rw off (omega (arith, rest))

  -- some pass just where it isn't 0
  pub any-tally : (xs : List X) → list_any p xs ≡ ltb 0 (tally p xs)
  any-tally [] = refl
  any-tally (x ∷ xs) = by (p x) refl (any-tally xs)
    where
      by : (b : Bool) → p x ≡ b → list_any p xs ≡ ltb 0 (tally p xs) → list_any p (x ∷ xs) ≡ ltb 0 (tally p (x ∷ xs))
      by true on rest = rw on (sym (lt-ltb 0 (1 + tally p xs) (omega arith)))
      by false off rest = let none : tally p xs ≡ 0 + tally p xs = omega arith in rw off (rest ∙ ap (ltb 0) none)

pub tally-all : {X : Type 0} (xs : List X) → tally (λ x. true) xs ≡ length xs
tally-all [] = refl
tally-all (x ∷ xs) = let rest = tally-all xs in omega (arith, rest)

-- ---- one dimension

-- tests of the elements of a cell, one for each of the first dimensions
abbrev pub passes : List (ℕ → Bool) → List ℕ → Bool
passes [] xs = true
passes (t ∷ ts) [] = true
passes (t ∷ ts) (x ∷ xs) = t x && passes ts xs

-- the product of how many leaves pass
abbrev pub counts : List Outline → List ℕ → List (ℕ → Bool) → ℕ
counts [] es ts = 1
counts (d ∷ ds) [] ts = 0
counts (d ∷ ds) (e ∷ es) [] = tally (λ (pair : ℕ × ℤ). true) (leaves_of d e) * counts ds es []
counts (d ∷ ds) (e ∷ es) (t ∷ ts) = tally (λ (pair : ℕ × ℤ). t pair.0) (leaves_of d e) * counts ds es ts

module _ (d : Outline) (dim : IsDimension d) (e : ℕ) (here : IsElement d e) where
  -- what counts is a leaf
  counted-leaf : (a : ℕ) → is_nonzero (coef d e a) ≡ true → is_leaf d a ≡ true
  counted-leaf a on = by (components_of d a) refl
    where
      by : (parts : List (ℕ × ℤ)) → components_of d a ≡ parts → (length parts == 0) ≡ true
      by [] is = refl
      by (part ∷ parts) is = absurd (nonzero-counts (coef d e a) on (only-leaves d dim a (λ none. (let clash : [] ≡ part ∷ parts = sym none ∙ is in cc)) e here))

  row-test : (t : ℕ → Bool) (a : ℕ) → ((is_leaf d a && is_nonzero (coef d e a)) && t a) ≡ (is_nonzero (coef d e a) && t a)
  row-test t a = by (is_nonzero (coef d e a)) refl
    where
      by : (b : Bool) → is_nonzero (coef d e a) ≡ b → ((is_leaf d a && b) && t a) ≡ (b && t a)
      by true on = rw (counted-leaf a on) refl
      by false off = none (is_leaf d a)
        where
          none : (l : Bool) → ((l && false) && t a) ≡ false
          none true = refl
          none false = refl

  row : (t : ℕ → Bool) → tally (λ a. (is_leaf d a && is_nonzero (coef d e a)) && t a) (range_with_len 0 (length d.elements)) ≡ tally (λ (pair : ℕ × ℤ). t pair.0) (leaves_of d e)
  row t =
      tally-same (λ a. (is_leaf d a && is_nonzero (coef d e a)) && t a) (λ a. is_nonzero (coef d e a) && t a) (range_with_len 0 (length d.elements)) (row-test t)
      ∙ sym (tally-map (λ (pair : ℕ × ℤ). is_nonzero pair.1 && t pair.0) (λ (a : ℕ). (a, coef d e a)) (range_with_len 0 (length d.elements)))
      ∙ sym (tally-filter (λ (pair : ℕ × ℤ). t pair.0) (λ (pair : ℕ × ℤ). is_nonzero pair.1) (map (λ (a : ℕ). (a, coef d e a)) (range_with_len 0 (length d.elements))))

-- ---- all dimensions

-- the first digit chooses among the same others
heads : (p : ℕ → Bool) (q r : List ℕ → Bool) (rest : List (List ℕ)) (a n : ℕ) → ((x : ℕ) (xs : List ℕ) → r (x ∷ xs) ≡ (p x && q xs))
    → tally r (flat_map (λ digit. map (λ digits. digit ∷ digits) rest) (range_with_len a n)) ≡ tally p (range_with_len a n) * tally q rest
heads p q r rest a zero h = sym (zero-mul (tally q rest))
heads p q r rest a (suc n) h = by (p a) refl (heads p q r rest (a + 1) n h)
  where
    those : List (List ℕ)
    those = flat_map (λ digit. map (λ digits. digit ∷ digits) rest) (range_with_len (a + 1) n)

    split : tally r (map (λ digits. a ∷ digits) rest ++ those) ≡ tally (λ digits. p a && q digits) rest + tally r those
    split =
        tally-append r (map (λ digits. a ∷ digits) rest) those
        ∙ ap (λ k. k + tally r those) (tally-map r (λ digits. a ∷ digits) rest ∙ tally-same (λ digits. r (a ∷ digits)) (λ digits. p a && q digits) rest (h a))

    more : (m k : ℕ) → k + m * k ≡ (1 + m) * k
    more m k = omega arith

    by : (b : Bool) → p a ≡ b → tally r those ≡ tally p (range_with_len (a + 1) n) * tally q rest
        → tally r (map (λ digits. a ∷ digits) rest ++ those) ≡ (cond (p a) 1 0 + tally p (range_with_len (a + 1) n)) * tally q rest
    by true on tail =
        let own : tally (λ digits. p a && q digits) rest ≡ tally q rest = tally-same (λ digits. p a && q digits) q rest (λ digits. ap (λ b. b && q digits) on) in
        split ∙ ap (λ k. k + tally r those) own ∙ ap (λ k. tally q rest + k) tail ∙ more (tally p (range_with_len (a + 1) n)) (tally q rest)
        ∙ ap (λ b. (cond b 1 0 + tally p (range_with_len (a + 1) n)) * tally q rest) (sym on)
    by false off tail =
        let own : tally (λ digits. p a && q digits) rest ≡ 0 = tally-none (λ digits. p a && q digits) rest (λ digits. ap (λ b. b && q digits) off) in
        let none : tally p (range_with_len (a + 1) n) ≡ 0 + tally p (range_with_len (a + 1) n) = omega arith in
        split ∙ ap (λ k. k + tally r those) own ∙ (let e : 0 + tally r those ≡ tally r those = omega arith in e) ∙ tail ∙ ap (λ k. k * tally q rest) none
        ∙ ap (λ b. (cond b 1 0 + tally p (range_with_len (a + 1) n)) * tally q rest) (sym off)

factors : (a b : ℤ) → is_nonzero (a *ℤ b) ≡ (is_nonzero a && is_nonzero b)
factors a b =
    same_from_decides {P = (is_nonzero a ≡ true) × (is_nonzero b ≡ true)} (is_nonzero (a *ℤ b)) (is_nonzero a && is_nonzero b) (λ h. (first-factor a b h, second-factor a b h), λ h. both-factors a b h.0 h.1)
    (λ h. and_parts (is_nonzero a) (is_nonzero b) h, λ h. and_from (is_nonzero a) (is_nonzero b) h.0 h.1)

shuffled : (l m z y t u : Bool) → (((l && m) && (z && y)) && (t && u)) ≡ (((l && z) && t) && ((m && y) && u))
shuffled false m z y t u = refl
shuffled true false false y t u = refl
shuffled true false true y false u = refl
shuffled true false true y true u = refl
shuffled true true false y t u = refl
shuffled true true true true false u = refl
shuffled true true true false false u = refl
shuffled true true true y true u = refl

-- leaves that count, and pass
abbrev pub is_counted : List Outline → List ℕ → List (ℕ → Bool) → List ℕ → Bool
is_counted ds es ts xs = (are_leaves ds xs && is_nonzero (coef_product ds es xs)) && passes ts xs

pub digits-tally : (ds : List Outline) (es : List ℕ) (ts : List (ℕ → Bool)) → ((j : ℕ) (d : Outline) → slice_get ds j ≡ Some d → IsDimension d) → are_digits (sizes_of ds) es ≡ true
    → tally (is_counted ds es ts) (all_digits (sizes_of ds)) ≡ counts ds es ts
digits-tally [] es [] each are = refl
digits-tally [] es (t ∷ ts) each are = refl
digits-tally (d ∷ ds) [] ts each are = absurd (cc)
digits-tally (d ∷ ds) (e ∷ es) [] each are =
    let low = ltb-true e (length d.elements) (and_parts (ltb e (length d.elements)) (are_digits (sizes_of ds) es) are).0 in
    heads (λ a. (is_leaf d a && is_nonzero (coef d e a)) && true) (is_counted ds es []) (is_counted (d ∷ ds) (e ∷ es) []) (all_digits (sizes_of ds)) 0 (length d.elements)
    (λ x xs. ap (λ b. ((is_leaf d x && are_leaves ds xs) && b) && true) (factors (coef d e x) (coef_product ds es xs)) ∙ shuffled (is_leaf d x) (are_leaves ds xs) (is_nonzero (coef d e x)) (is_nonzero (coef_product ds es xs)) true true)
    ∙ ap (λ k. k * tally (is_counted ds es []) (all_digits (sizes_of ds))) (row d (each 0 d refl) e low (λ a. true))
    ∙ ap (λ k. tally (λ (pair : ℕ × ℤ). true) (leaves_of d e) * k) (digits-tally ds es [] (λ j o at. each (suc j) o at) (and_parts (ltb e (length d.elements)) (are_digits (sizes_of ds) es) are).1)
digits-tally (d ∷ ds) (e ∷ es) (t ∷ ts) each are =
    let low = ltb-true e (length d.elements) (and_parts (ltb e (length d.elements)) (are_digits (sizes_of ds) es) are).0 in
    heads (λ a. (is_leaf d a && is_nonzero (coef d e a)) && t a) (is_counted ds es ts) (is_counted (d ∷ ds) (e ∷ es) (t ∷ ts)) (all_digits (sizes_of ds)) 0 (length d.elements)
    (λ x xs. ap (λ b. ((is_leaf d x && are_leaves ds xs) && b) && (t x && passes ts xs)) (factors (coef d e x) (coef_product ds es xs)) ∙ shuffled (is_leaf d x) (are_leaves ds xs) (is_nonzero (coef d e x)) (is_nonzero (coef_product ds es xs)) (t x) (passes ts xs))
    ∙ ap (λ k. k * tally (is_counted ds es ts) (all_digits (sizes_of ds))) (row d (each 0 d refl) e low t)
    ∙ ap (λ k. tally (λ (pair : ℕ × ℤ). t pair.0) (leaves_of d e) * k) (digits-tally ds es ts (λ j o at. each (suc j) o at) (and_parts (ltb e (length d.elements)) (are_digits (sizes_of ds) es) are).1)

-- ---- cells

module _ (space : Layout) (valid : IsSpace space) (cell : ℕ) (here : IsCell space cell) (ts : List (ℕ → Bool)) where
  abbrev cube : ℕ
  cube = cube_of space cell

  abbrev es : List ℕ
  es = elements_of space cell

  abbrev ds : List Outline
  ds = axes space cube

  -- a leaf cell below, that passes
  abbrev IsHere : Cell → Bool
  IsHere c = (are_leaves (axes space c.cube) c.elements && is_nonzero (if cube == c.cube then coef_product ds es c.elements else pos 0)) && passes ts c.elements

  own-cells : tally IsHere (cells_of space cube) ≡ counts ds es ts
  own-cells =
      tally-map IsHere (λ elements. record { cube = cube; elements = elements }) (all_digits (sizes space cube))
      ∙ tally-same (λ elements. IsHere (record { cube = cube; elements = elements })) (is_counted ds es ts) (all_digits (sizes space cube))
      (λ xs. ap (λ b. (are_leaves ds xs && is_nonzero (if b then coef_product ds es xs else pos 0)) && passes ts xs) (eq-eqb cube cube refl))
      ∙ digits-tally ds es ts (axis-is space valid cube) (cell-place space cell here).place.digits

  other-cells : (k : ℕ) → (cube ≡ k → ⊥) → tally IsHere (cells_of space k) ≡ 0
  other-cells k other =
      tally-map IsHere (λ elements. record { cube = k; elements = elements }) (all_digits (sizes space k))
      ∙ tally-none (λ elements. IsHere (record { cube = k; elements = elements })) (all_digits (sizes space k))
      (λ xs. ap (λ b. (are_leaves (axes space k) xs && is_nonzero (if b then coef_product ds es xs else pos 0)) && passes ts xs) (ne_eqb cube k other) ∙ none (are_leaves (axes space k) xs) (passes ts xs))
    where
      none : (l t : Bool) → ((l && false) && t) ≡ false
      none true t = refl
      none false t = refl

  none-behind : (a n : ℕ) → cube < a → tally IsHere (flat_map (cells_of space) (range_with_len a n)) ≡ 0
  none-behind a zero low = refl
  none-behind a (suc n) low =
      omega (arith, tally-append IsHere (cells_of space a) (flat_map (cells_of space) (range_with_len (a + 1) n)), other-cells a (λ same. omega (arith, low, same)), none-behind (a + 1) n (omega (arith, low)))

  among : (a n : ℕ) → a ≤ cube → cube < a + n → tally IsHere (flat_map (cells_of space) (range_with_len a n)) ≡ counts ds es ts
  among a zero from low = absurd (omega (arith, from, low))
  among a (suc n) from low = by (cases_lt a cube) (among (a + 1) n)
    where
      split : tally IsHere (cells_of space a ++ flat_map (cells_of space) (range_with_len (a + 1) n)) ≡ tally IsHere (cells_of space a) + tally IsHere (flat_map (cells_of space) (range_with_len (a + 1) n))
      split = tally-append IsHere (cells_of space a) (flat_map (cells_of space) (range_with_len (a + 1) n))

      by : (a < cube) ⊎ (cube ≤ a) → (a + 1 ≤ cube → cube < a + 1 + n → tally IsHere (flat_map (cells_of space) (range_with_len (a + 1) n)) ≡ counts ds es ts)
          → tally IsHere (cells_of space a ++ flat_map (cells_of space) (range_with_len (a + 1) n)) ≡ counts ds es ts
      by (inl before) rest = omega (arith, split, other-cells a (λ same. omega (arith, before, same)), rest (omega (arith, before)) (omega (arith, low)))
      by (inr after) rest =
          let same : cube ≡ a = omega (arith, from, after) in
          let own : tally IsHere (cells_of space a) ≡ counts ds es ts = ap (λ k. tally IsHere (cells_of space k)) (sym same) ∙ own-cells in
          omega (arith, split, own, none-behind (a + 1) n (omega (arith, same)))

  -- the cells by number are the cells in their order
  by-number : tally (λ x. (is_leaf_cell space x && is_nonzero (weight space cell x)) && passes ts (elements_of space x)) (range_with_len 0 (size_of space)) ≡ tally IsHere (all_cells space)
  unfolding is_leaf_cell cell_at weight
  by-number =
      let none : Cell = record { cube = 0; elements = [] } in
      sym (tally-map IsHere (λ n. get_or (all_cells space) n none) (range_with_len 0 (size_of space)))
      ∙ ap (tally IsHere) (sym (fill_by_all (λ n. get_or (all_cells space) n none) (all_cells space) (size_of space) none (length-all_cells space) (λ k low. refl)))

  apart : (l z t : Bool) → (l && (z && t)) ≡ ((l && z) && t)
  apart true z t = refl
  apart false z t = refl

  pub below-tally : tally (λ x. passes ts (elements_of space x)) (cells_below space cell) ≡ counts ds es ts
  unfolding leaf_cells all_cells
  below-tally =
      let p = λ (x : ℕ). passes ts (elements_of space x) in
      let w = weight space cell in
      let leaves = filter (is_leaf_cell space) (range_with_len 0 (size_of space)) in
      tally-map p (λ (pair : ℕ × ℤ). pair.0) (leaves_below space cell)
      ∙ tally-filter (λ (pair : ℕ × ℤ). p pair.0) (λ (pair : ℕ × ℤ). is_nonzero pair.1) (map (λ (x : ℕ). (x, w x)) leaves)
      ∙ tally-map (λ (pair : ℕ × ℤ). is_nonzero pair.1 && p pair.0) (λ (x : ℕ). (x, w x)) leaves
      ∙ tally-filter (λ (x : ℕ). is_nonzero (w x) && p x) (is_leaf_cell space) (range_with_len 0 (size_of space))
      ∙ tally-same (λ (x : ℕ). is_leaf_cell space x && (is_nonzero (w x) && p x)) (λ (x : ℕ). (is_leaf_cell space x && is_nonzero (w x)) && p x) (range_with_len 0 (size_of space)) (λ x. apart (is_leaf_cell space x) (is_nonzero (w x)) (p x))
      ∙ by-number
      ∙ among 0 (length space.cubes) (omega arith) (let there = (cell-place space cell here).place.there in omega (arith, there))
