-- Products of coefficients, dimension by dimension.
use Rattle.std.proofs.Common.{◌≡◌, ℕ, ◌+◌, ◌*◌, ◌<◌, ◌≤◌, zero, suc, ℤ, pos, ◌*ℤ◌, List, [], ◌∷◌, length, map, drop, drop-cons, Some, refl, sym, ap, ◌∙◌, subst, arith, unsigned_abs, slice_get, slice_index_or, max, true, negsuc}
use Rattle.std.proofs.Common.{to_z, of_z, w64}
use Rattle.std.proofs.lemmas.Int.{ints, unsigned_abs-mul, to_z-of_z}
use mir.Val.{SFits}
use Rattle.std.proofs.Common.{ltb}
use Rattle.std.proofs.lemmas.Bool.{and_parts, ltb-true}
use Rattle.std.proofs.Math.Nat.{mul-le-mul}
use Rattle.std.specs.List.{AllZip, range_with_len}
use Rattle.cube_space.specs.Layout.{axes_of, sizes_of}
use Rattle.cube_space.specs.Radix.{product, are_digits}
use Rattle.dim_core.specs.Outline.{Outline}
use Rattle.dim_weights.specs.Coefficients.{coef}
use Rattle.dim_weights.specs.Table.{IsWeightsOf, leaves_of, greatest_of, greatest_in}
use Rattle.rule_model.specs.Weights.{greatest_coef, coef_product}
use Rattle.rule_model.proofs.Named.{axes_cons}
pub use Rattle.lists.proofs.Found.{there as dimension_at}

-- its coefficients
pub weights_at : (D : List Outline) (W : List (List (List (ℕ × ℤ)))) (k : ℕ) (d : Outline) (w : List (List (ℕ × ℤ))) → AllZip IsWeightsOf D W → slice_get D k ≡ Some d → (k < length W) × IsWeightsOf d (slice_index_or W k w)
weights_at [] W k d w all is = absurd (cc is)
weights_at (x ∷ D) [] k d w all is = absurd all
weights_at (x ∷ D) (v ∷ W) zero d w all is = let same : x ≡ d = cc in (omega arith, subst (λ o. IsWeightsOf o v) same all.0)
weights_at (x ∷ D) (v ∷ W) (suc k) d w all is = let (low, table) = weights_at D W k d w all.1 is in (omega (arith, low), table)

rows_are : (rows : List (List (ℕ × ℤ))) (f : ℕ → List (ℕ × ℤ)) (start : ℕ) → ((i : ℕ) → i < length rows → slice_index_or rows i [] ≡ f (start + i)) → greatest_of rows ≡ greatest_of (map f (range_with_len start (length rows)))
rows_are [] f start each = refl
rows_are (row ∷ rows) f start each =
    let zero_more : start + 0 ≡ start = omega arith in
    let here : row ≡ f start = each 0 (omega arith) ∙ ap f zero_more in
    let later : greatest_of rows ≡ greatest_of (map f (range_with_len (start + 1) (length rows))) = rows_are rows f (start + 1) (λ i low. (let e : start + suc i ≡ start + 1 + i = omega arith in each (suc i) (omega (arith, low)) ∙ ap f e)) in
    ap (λ r. max (greatest_in r) (greatest_of rows)) here ∙ ap (λ m. max (greatest_in (f start)) m) later

same_place : (d : Outline) (w : List (List (ℕ × ℤ))) → IsWeightsOf d w → (i : ℕ) → i < length w → slice_index_or w i [] ≡ leaves_of d (0 + i)
same_place d w is i low = let e : i ≡ 0 + i = omega arith in is.each i (omega (arith, low, is.whole)) ∙ ap (leaves_of d) e

-- the greatest coefficient of the table is that of the dimension
pub greatest_is : (d : Outline) (w : List (List (ℕ × ℤ))) → IsWeightsOf d w → greatest_of w ≡ greatest_coef d
unfolding greatest_coef
greatest_is d w is = rows_are w (leaves_of d) 0 (same_place d w is) ∙ ap (λ n. greatest_of (map (leaves_of d) (range_with_len 0 n))) is.whole

-- the dimensions from this place on
pub axes_at : (D : List Outline) (dims : List ℕ) (from : ℕ) (d : Outline) → from < length dims → slice_get D (slice_index_or dims from 0) ≡ Some d → axes_of D (drop from dims) ≡ d ∷ axes_of D (drop (from + 1) dims)
axes_at D dims from d low is =
    let e : suc from ≡ from + 1 = omega arith in
    ap (axes_of D) (drop-cons dims from 0 low) ∙ axes_cons D (slice_index_or dims from 0) (drop (suc from) dims) d is ∙ ap (λ n. d ∷ axes_of D (drop n dims)) e

drop_at : (xs : List ℕ) (from : ℕ) → from < length xs → drop from xs ≡ slice_index_or xs from 0 ∷ drop (from + 1) xs
drop_at xs from low = let e : suc from ≡ from + 1 = omega arith in drop-cons xs from 0 low ∙ ap (λ n. slice_index_or xs from 0 ∷ drop n xs) e

pub coefs_at : (D : List Outline) (dims at below : List ℕ) (from : ℕ) (d : Outline) → from < length dims → from < length at → from < length below → slice_get D (slice_index_or dims from 0) ≡ Some d
    → coef_product (axes_of D (drop from dims)) (drop from at) (drop from below)
    ≡ coef d (slice_index_or at from 0) (slice_index_or below from 0) *ℤ coef_product (axes_of D (drop (from + 1) dims)) (drop (from + 1) at) (drop (from + 1) below)
coefs_at D dims at below from d h k l is = rw (axes_at D dims from d h is, drop_at at from k, drop_at below from l) refl

pub greatest_at : (D : List Outline) (dims : List ℕ) (from : ℕ) (d : Outline) → from < length dims → slice_get D (slice_index_or dims from 0) ≡ Some d
    → product (map greatest_coef (axes_of D (drop from dims))) ≡ greatest_coef d * product (map greatest_coef (axes_of D (drop (from + 1) dims)))
greatest_at D dims from d h is = ap (λ a. product (map greatest_coef a)) (axes_at D dims from d h is)

-- the first digit is below the first size, and the others are digits for the others
pub first_digit : (e size : ℕ) (sizes digits : List ℕ) → are_digits (size ∷ sizes) (e ∷ digits) ≡ true → e < size
first_digit e size sizes digits h = let (low, _) = and_parts (ltb e size) (are_digits sizes digits) h in ltb-true e size low

pub later_digits : (e size : ℕ) (sizes digits : List ℕ) → are_digits (size ∷ sizes) (e ∷ digits) ≡ true → are_digits sizes digits ≡ true
later_digits e size sizes digits h = let (_, rest) = and_parts (ltb e size) (are_digits sizes digits) h in rest

-- a digit is an element of its dimension
pub digit_at : (D : List Outline) (dims digits : List ℕ) (from : ℕ) (d : Outline) → are_digits (sizes_of (axes_of D dims)) digits ≡ true → ((i k : ℕ) → i < length dims → slice_index_or dims i k < length D) → from < length dims → slice_get D (slice_index_or dims from 0) ≡ Some d
    → (from < length digits) × (slice_index_or digits from 0 < length d.elements)
digit_at D [] digits from d are all h is = absurd (omega (arith, h))
digit_at D (k ∷ dims) [] zero d are all h is = let (x, at) = dimension_at D k (all 0 0 (omega arith)) in absurd (cc (ap (λ a. are_digits (sizes_of a) []) (sym (axes_cons D k dims x at)) ∙ are))
digit_at D (k ∷ dims) [] (suc from) d are all h is = let (x, at) = dimension_at D k (all 0 0 (omega arith)) in absurd (cc (ap (λ a. are_digits (sizes_of a) []) (sym (axes_cons D k dims x at)) ∙ are))
digit_at D (k ∷ dims) (e ∷ digits) zero d are all h is =
    let here = ap (λ a. are_digits (sizes_of a) (e ∷ digits)) (sym (axes_cons D k dims d is)) ∙ are in
    (omega arith, first_digit e (length d.elements) (sizes_of (axes_of D dims)) digits here)
digit_at D (k ∷ dims) (e ∷ digits) (suc from) d are all h is =
    let (x, at) = dimension_at D k (all 0 0 (omega arith)) in
    let here = ap (λ a. are_digits (sizes_of a) (e ∷ digits)) (sym (axes_cons D k dims x at)) ∙ are in
    let (low, element) = digit_at D dims digits from d (later_digits e (length x.elements) (sizes_of (axes_of D dims)) digits here) (λ i k l. all (suc i) k (omega (arith, l))) (omega (arith, h)) is in
    (omega (arith, low), element)

-- a product that is no greater than the first factor's, where that is at least 1
pub rest_small : (g rest most : ℕ) → g * rest ≤ most → 1 ≤ g → rest ≤ most
rest_small g rest most h one = let k : 1 * rest ≤ g * rest = mul-le-mul one (omega arith) in omega (arith, h, k)

pub size_of_product : (a b : ℤ) (g rest : ℕ) → unsigned_abs a ≤ g → unsigned_abs b ≤ rest → unsigned_abs (a *ℤ b) ≤ g * rest
size_of_product a b g rest h k = rw (unsigned_abs-mul a b) (mul-le-mul h k)

pub small_fits : (z : ℤ) → unsigned_abs z ≤ 1000000000 → SFits w64 z
small_fits z small = omega (arith, ints, small)

pub word_of : (z : ℤ) → unsigned_abs z ≤ 1000000000 → to_z w64 (of_z w64 z) ≡ z
word_of z small = to_z-of_z w64 z (small_fits z small)

pub size_positive : (z : ℤ) → (z ≡ pos 0 → ⊥) → 1 ≤ unsigned_abs z
size_positive z differs = size_by z (unsigned_abs z) refl differs where
  size_by : (z : ℤ) (n : ℕ) → unsigned_abs z ≡ n → (z ≡ pos 0 → ⊥) → 1 ≤ unsigned_abs z
  size_by (pos zero) n e differs = absurd (differs refl)
  size_by (pos (suc m)) n e differs = omega (arith, ints)
  size_by (negsuc m) n e differs = omega (arith, ints)

-- what is known at a place of the dimensions of a cube
pub record IsAt (D : List Outline) (W : List (List (List (ℕ × ℤ)))) (dims at below : List ℕ) (from : ℕ) : Type 0 where
  pub d : Outline
  pub own : slice_get D (slice_index_or dims from 0) ≡ Some d
  pub row : slice_index_or dims from 0 < length W
  pub table : (w : List (List (ℕ × ℤ))) → w ≡ slice_index_or W (slice_index_or dims from 0) w → IsWeightsOf d w
  pub at_low : from < length at
  pub element : slice_index_or at from 0 < length d.elements
  pub below_low : from < length below
  pub leaf : slice_index_or below from 0 < length d.elements

pub is_at : (D : List Outline) (W : List (List (List (ℕ × ℤ)))) (dims at below : List ℕ) (from : ℕ) → AllZip IsWeightsOf D W → ((i k : ℕ) → i < length dims → slice_index_or dims i k < length D)
    → are_digits (sizes_of (axes_of D dims)) at ≡ true → are_digits (sizes_of (axes_of D dims)) below ≡ true → from < length dims → IsAt D W dims at below from
is_at D W dims at below from all within upper lower low =
    let (d, own) = dimension_at D (slice_index_or dims from 0) (within from 0 low) in
    let (at_low, element) = digit_at D dims at from d upper within low own in
    let (below_low, leaf) = digit_at D dims below from d lower within low own in
    record {
      d = d;
      own = own;
      row = (weights_at D W (slice_index_or dims from 0) d [] all own).0;
      table = λ w is. subst (IsWeightsOf d) (sym is) (weights_at D W (slice_index_or dims from 0) d w all own).1;
      at_low = at_low;
      element = element;
      below_low = below_low;
      leaf = leaf;
    }

-- nothing of a number
pub none_of : (z : ℤ) → pos 0 *ℤ z ≡ pos 0
none_of z = omega (arith, ints)
