-- The first of some dimensions, and the others.
use Rattle.std.proofs.Common.{◌≡◌, ◌∙◌, refl, sym, ap, subst, arith, ℕ, zero, suc, ◌+◌, ◌*◌, ◌/◌, ◌<◌, ◌≤◌, true, ℤ, unsigned_abs, List, [], ◌∷◌, length, map, get_or, drop, take, ◌-◌, Some, find, nat_lt, Bool, false, inl, inr, Option, None, MatchOption, IfSome, leb}
use Rattle.std.specs.List.{All, AllZip, range_with_len, slice_get, cons_option}
use Rattle.std.proofs.lemmas.Bool.{and_parts, ltb-true, cases_eq}
use Rattle.std.proofs.lemmas.Nat.{div-mul-add}
use Rattle.std.proofs.lemmas.List.Elements.{All-tail}
use Rattle.dim_core.specs.Outline.{Outline}
use Rattle.dim_weights.specs.Coefficients.{coef}
use Rattle.dim_weights.specs.Table.{IsWeightsOf, leaves_of, greatest_in, greatest_of}
use Rattle.cube_space.specs.Layout.{axes_of, sizes_of}
use Rattle.cube_space.specs.Radix.{product, are_digits}
use Rattle.rule_model.specs.Weights.{greatest_coef}
use Rattle.sparse_sum.specs.Inside.First.{IsClear, IsFirst}
use Rattle.sparse_sum.proofs.Pairs.{found-none, found-some}
pub use Rattle.rule_model.proofs.Coefs.{size_of_product as both-size}

-- what is known of the first of these dimensions, and of the element at it
pub record IsHead (D : List Outline) (W : List (List (List (ℕ × ℤ)))) (dims at ks es : List ℕ) : Type 0 where
  pub d : Outline
  pub own : slice_get D (get_or dims 0 0) ≡ Some d
  pub axes : axes_of D dims ≡ d ∷ axes_of D ks
  pub row : get_or dims 0 0 < length W
  pub table : (w : List (List (ℕ × ℤ))) → IsWeightsOf d (get_or W (get_or dims 0 0) w)
  pub some : 0 < length at
  pub element : get_or at 0 0 < length d.elements
  pub split : at ≡ get_or at 0 0 ∷ es
  pub others : All (λ dim. dim < length D) ks
  pub digits : are_digits (sizes_of (axes_of D ks)) es ≡ true
  pub fewer : length ks < length dims

dimension-of : (D : List Outline) (W : List (List (List (ℕ × ℤ)))) (k : ℕ) → AllZip IsWeightsOf D W → k < length D
    → (d : Outline) × (slice_get D k ≡ Some d) × (k < length W) × ((w : List (List (ℕ × ℤ))) → IsWeightsOf d (get_or W k w))
dimension-of [] W k all low = absurd (omega (arith, low))
dimension-of (d ∷ D) [] k all low = absurd all
dimension-of (d ∷ D) (v ∷ W) zero all low = (d, refl, omega arith, λ w. all.0)
dimension-of (d ∷ D) (v ∷ W) (suc k) all low =
    let rest = dimension-of D W k all.1 (omega (arith, low)) in
    (rest.0, rest.1, (let l = rest.2 in omega (arith, l)), rest.3)

head-itself : (D : List Outline) (W : List (List (List (ℕ × ℤ)))) (dims at : List ℕ) → AllZip IsWeightsOf D W → All (λ dim. dim < length D) dims → are_digits (sizes_of (axes_of D dims)) at ≡ true
    → 0 < length dims → IsHead D W dims at (drop 1 dims) (drop 1 at)
head-itself D W [] at tables within are some = absurd (omega (arith, some))
head-itself D W (k ∷ dims) at tables within are some =
    let found = dimension-of D W k tables (within 0 0 (omega arith)) in
    let axes : axes_of D (k ∷ dims) ≡ found.0 ∷ axes_of D dims = ap (λ o. cons_option o (axes_of D dims)) found.1 in
    by found.0 found.1 found.2 found.3 axes at (ap (λ (ds : List Outline). are_digits (sizes_of ds) at) (sym axes) ∙ are)
  where
    by : (d : Outline) → slice_get D k ≡ Some d → k < length W → ((w : List (List (ℕ × ℤ))) → IsWeightsOf d (get_or W k w)) → axes_of D (k ∷ dims) ≡ d ∷ axes_of D dims
        → (at : List ℕ) → are_digits (sizes_of (d ∷ axes_of D dims)) at ≡ true → IsHead D W (k ∷ dims) at dims (drop 1 at)
    by d own row table axes [] digits = absurd (cc)
    by d own row table axes (e ∷ at) digits =
        let parts = and_parts (nat_lt e (length d.elements)) (are_digits (sizes_of (axes_of D dims)) at) digits in
        record {
          d = d;
          own = own;
          axes = axes;
          row = row;
          table = table;
          some = omega arith;
          element = ltb-true e (length d.elements) parts.0;
          split = refl;
          others = All-tail (λ dim. dim < length D) k dims within;
          digits = parts.1;
          fewer = omega arith;
        }

pub head : (D : List Outline) (W : List (List (List (ℕ × ℤ)))) (dims at : List ℕ) → AllZip IsWeightsOf D W → All (λ dim. dim < length D) dims → are_digits (sizes_of (axes_of D dims)) at ≡ true
    → 0 < length dims → (ks es : List ℕ) → ks ≡ drop 1 dims → es ≡ drop 1 at → IsHead D W dims at ks es
head D W dims at tables within are some ks es others below =
    subst (λ (xs : List ℕ). IsHead D W dims at xs es) (sym others)
    (subst (λ (ys : List ℕ). IsHead D W dims at (drop 1 dims) ys) (sym below) (head-itself D W dims at tables within are some))

-- ---- the size of a coefficient

found-size : (q : ℕ × ℤ → Bool) (ps : List (ℕ × ℤ)) (p : ℕ × ℤ) → find q ps ≡ Some p → unsigned_abs p.1 ≤ greatest_in ps
found-size q [] p is = absurd (cc)
found-size q (x ∷ ps) p is = by (q x) refl (λ rest. found-size q ps p rest)
  where
    by : (b : Bool) → q x ≡ b → (find q ps ≡ Some p → unsigned_abs p.1 ≤ greatest_in ps) → unsigned_abs p.1 ≤ greatest_in (x ∷ ps)
    by true passes later = let own : Some x ≡ Some p = rw passes at is in let same : x ≡ p = cc in subst (λ (y : ℕ × ℤ). unsigned_abs y.1 ≤ greatest_in (x ∷ ps)) same (omega arith)
    by false fails later = let rest : find q ps ≡ Some p = rw fails at is in let small = later rest in omega (arith, small)

among-greatest : (f : ℕ → List (ℕ × ℤ)) (e s m : ℕ) → s ≤ e → e < s + m → greatest_in (f e) ≤ greatest_of (map f (range_with_len s m))
among-greatest f e s zero low less = absurd (omega (arith, low, less))
among-greatest f e s (suc m) low less = elim (cases_eq e s) [
  | inl same ↦ (let own : greatest_in (f e) ≡ greatest_in (f s) = ap (λ (n : ℕ). greatest_in (f n)) same in omega (arith, own))
  | inr apart ↦ (let rest = among-greatest f e (s + 1) m (omega (arith, low, apart)) (omega (arith, less)) in omega (arith, rest))
]

pub row-size : (d : Outline) (e : ℕ) (q : ℕ × ℤ → Bool) (p : ℕ × ℤ) → e < length d.elements → find q (leaves_of d e) ≡ Some p → unsigned_abs p.1 ≤ greatest_coef d
unfolding greatest_coef
row-size d e q p low is =
    let a = found-size q (leaves_of d e) p is in
    let b = among-greatest (leaves_of d) e 0 (length d.elements) (omega arith) (omega (arith, low)) in
    omega (arith, a, b)

-- how many cells have the same first element
pub worth-is : (D : List Outline) (dims : List ℕ) (o : Outline) (cells : ℕ) → 0 < length dims → slice_get D (get_or dims 0 0) ≡ Some o → cells ≡ product (sizes_of (axes_of D dims)) → 0 < cells
    → (0 < length o.elements) × (cells / length o.elements ≡ product (sizes_of (axes_of D (drop 1 dims))))
worth-is D [] o cells some is whole filled = absurd (omega (arith, some))
worth-is D (k ∷ dims) o cells some is whole filled =
    let axes : axes_of D (k ∷ dims) ≡ o ∷ axes_of D dims = ap (λ x. cons_option x (axes_of D dims)) is in
    let e : cells ≡ length o.elements * product (sizes_of (axes_of D dims)) = whole ∙ ap (λ (ds : List Outline). product (sizes_of ds)) axes in
    let left = positive (length o.elements) (product (sizes_of (axes_of D dims))) (omega (arith, filled, e)) in
    (left, whole_part (length o.elements) (product (sizes_of (axes_of D dims))) cells e left)
  where
    positive : (size worth : ℕ) → 0 < size * worth → 0 < size
    positive zero worth less = absurd (omega (arith, less))
    positive (suc size) worth less = omega arith

    whole_part : (size worth cells : ℕ) → cells ≡ size * worth → 0 < size → cells / size ≡ worth
    whole_part size worth cells is some =
        let e : cells ≡ worth * size + 0 = omega (arith, is) in
        ap (λ n. n / size) e ∙ div-mul-add worth size 0 some

pub at-some : (D : List Outline) (W : List (List (List (ℕ × ℤ)))) (dims at : List ℕ) → AllZip IsWeightsOf D W → All (λ dim. dim < length D) dims → are_digits (sizes_of (axes_of D dims)) at ≡ true → 0 < length dims → 0 < length at
at-some D W dims at tables within are some = (head-itself D W dims at tables within are some).some

pub row-of : (D : List Outline) (W : List (List (List (ℕ × ℤ)))) (k : ℕ) → AllZip IsWeightsOf D W → k < length D
    → (d : Outline) × (slice_get D k ≡ Some d) × (k < length W) × ((w : List (List (ℕ × ℤ))) → IsWeightsOf d (get_or W k w))
row-of = dimension-of

pub rest-is : (xs : List ℕ) → take (length xs - 1) (drop 1 xs) ≡ drop 1 xs
rest-is [] = refl
rest-is (x ∷ xs) = let e : suc (length xs) - 1 ≡ length xs = omega arith in rw e (take_all xs)
  where
    take_all : (ys : List ℕ) → take (length ys) ys ≡ ys
    take_all [] = refl
    take_all (y ∷ ys) = ap (λ (zs : List ℕ). y ∷ zs) (take_all ys)

-- the row that is found
pub row-at : (d : Outline) (e from : ℕ) (found : Option (ℕ × ℤ)) → found ≡ find (λ pair. leb from pair.0) (leaves_of d e)
    → MatchOption found (IsClear (coef d e) from (length d.elements)) (λ row. IsFirst (coef d e) (length d.elements) from row)
row-at d e from None is = found-none (coef d e) from (length d.elements) (sym is)
row-at d e from (Some row) is = found-some (coef d e) from (length d.elements) row (sym is)

pub row-fits : (d : Outline) (e from : ℕ) (found : Option (ℕ × ℤ)) → e < length d.elements → found ≡ find (λ pair. leb from pair.0) (leaves_of d e) → IfSome found (λ row. unsigned_abs row.1 ≤ greatest_coef d)
row-fits d e from None low is = tt
row-fits d e from (Some row) low is = row-size d e (λ pair. leb from pair.0) row low (sym is)
