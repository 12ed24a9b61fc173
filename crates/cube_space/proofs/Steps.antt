-- One more digit read or written, and one more size multiplied.
use Rattle.std.proofs.Common.{◌≡◌, ℕ, zero, suc, ◌+◌, ◌-◌, ◌*◌, ◌/◌, ◌%◌, ◌<◌, ◌≤◌, ◌⊎◌, inl, inr, true, false, List, ◌∷◌, length, get_or, set, take, drop, refl, ap, sym, ◌∙◌, arith, nat_lt, min}
use Rattle.std.proofs.lemmas.Bool.{and_parts, and_from, lt-ltb, cases_lt, false_from_ne_true}
use Rattle.std.proofs.lemmas.List.{drop_more, drop_all, drop-set, length-take-le}
use Rattle.std.proofs.Math.Seq.{take-set-lt}
use Rattle.std.proofs.Math.Nat.{min-eq_left, min-eq_right}
use Rattle.std.proofs.lemmas.Nat.{mod_below, div-add-mod'}
use Rattle.cube_space.specs.Radix.{product, are_digits, number_of}
use Rattle.cube_space.proofs.Radix.{number-below, digits-length}

-- digits of another count are no digits
pub digits-other_count : (sizes digits : List ℕ) → (length sizes ≡ length digits → ⊥) → false ≡ are_digits sizes digits
digits-other_count sizes digits other = sym (false_from_ne_true (are_digits sizes digits) (λ h. other (sym (digits-length sizes digits h))))

times-positive : (n p : ℕ) → 0 < p → n ≤ n * p
times-positive n zero h = absurd (omega arith)
times-positive n (suc p) h = omega arith

-- the number of the digits so far is no more than the whole number
pub number-so_far : (sizes digits : List ℕ) (i number total size digit : ℕ) → size ≡ get_or sizes i 0 → digit ≡ get_or digits i 0 → i < length sizes → i < length digits
    → are_digits (drop i sizes) (drop i digits) ≡ true → number * product (drop i sizes) + number_of (drop i sizes) (drop i digits) ≡ total → number * size + digit ≤ total
number-so_far sizes digits i number total size digit s d h g are is =
    rw (s, d) (so_far (get_or sizes i 0) (get_or digits i 0) (drop (i + 1) sizes) (drop (i + 1) digits) (rw (drop_more sizes i 0 h, drop_more digits i 0 g) at are) (rw (drop_more sizes i 0 h, drop_more digits i 0 g) at is))
  where
    so_far : (size digit : ℕ) (ss ds : List ℕ) → are_digits (size ∷ ss) (digit ∷ ds) ≡ true → number * product (size ∷ ss) + number_of (size ∷ ss) (digit ∷ ds) ≡ total → number * size + digit ≤ total
    so_far size digit ss ds a e =
        let parts = and_parts (nat_lt digit size) (are_digits ss ds) a in
        let some : 0 < product ss = omega (arith, number-below ss ds parts.1) in
        omega (arith, times-positive (number * size + digit) (product ss) some)

parted-number : (quotient size digit count number : ℕ) → quotient * (size * count) + (digit * count + number) ≡ (quotient * size + digit) * count + number
parted-number quotient size digit count number = omega arith

-- one more digit is written
pub write-step : (sizes digits : List ℕ) (i rest number : ℕ) → i < length sizes → i < length digits → 0 < get_or sizes i 0 → are_digits (drop (i + 1) sizes) (drop (i + 1) digits) ≡ true
    → rest * product (drop (i + 1) sizes) + number_of (drop (i + 1) sizes) (drop (i + 1) digits) ≡ number
    → (are_digits (drop i sizes) (drop i (set digits i (rest % get_or sizes i 0))) ≡ true)
    × (rest / get_or sizes i 0 * product (drop i sizes) + number_of (drop i sizes) (drop i (set digits i (rest % get_or sizes i 0))) ≡ number)
write-step sizes digits i rest number h g some are is =
    let size = get_or sizes i 0 in
    let digit = rest % size in
    let count = product (drop (i + 1) sizes) in
    let after = number_of (drop (i + 1) sizes) (drop (i + 1) digits) in
    rw (drop_more sizes i 0 h, drop-set digits i digit g)
    (and_from _ _ (lt-ltb digit size (mod_below rest size some)) are, parted-number (rest / size) size digit count after ∙ ap (λ n. n * count + after) (div-add-mod' rest size) ∙ is)

-- a turn of the loop that writes digits into the first places, from the last one on
pub write-turn : (sizes places : List ℕ) (i rest number size : ℕ) → 0 < i → i ≤ length sizes → length sizes ≤ length places → size ≡ get_or sizes (i - 1) 0 → 0 < size
    → are_digits (drop i sizes) (drop i (take (length sizes) places)) ≡ true
    → rest * product (drop i sizes) + number_of (drop i sizes) (drop i (take (length sizes) places)) ≡ number
    → (are_digits (drop (i - 1) sizes) (drop (i - 1) (take (length sizes) (set places (i - 1) (rest % size)))) ≡ true)
    × (rest / size * product (drop (i - 1) sizes) + number_of (drop (i - 1) sizes) (drop (i - 1) (take (length sizes) (set places (i - 1) (rest % size)))) ≡ number)
write-turn sizes places zero rest number size h few room s some are is = absurd (omega arith)
write-turn sizes places (suc j) rest number size h few room s some are is =
    let back : suc j - 1 ≡ j = omega arith in
    let next : suc j ≡ j + 1 = omega arith in
    let shown : size ≡ get_or sizes j 0 = rw back at s in
    let written : take (length sizes) (set places j (rest % get_or sizes j 0)) ≡ set (take (length sizes) places) j (rest % get_or sizes j 0) = take-set-lt (length sizes) places j (rest % get_or sizes j 0) (omega arith) in
    let taken = length-take-le (length sizes) places room in
    rw (shown, back, written)
    (write-step sizes (take (length sizes) places) j rest number (omega arith) (omega (arith, taken)) (rw shown at some) (rw next at are) (rw next at is))

-- a number below the product leaves nothing
pub nothing-left : (rest count number whole : ℕ) → rest * count + number ≡ whole → whole < count → number ≡ whole
nothing-left zero count number whole e h = omega arith
nothing-left (suc rest) count number whole e h = absurd (omega arith)

-- a product that is held down at each step is the product held down at the end
pub held-down : (x y top : ℕ) → min (min x top * y) top ≡ min (x * y) top
held-down x y top = by (cases_lt top x) y
  where
    by : (top < x) ⊎ (x ≤ top) → (y : ℕ) → min (min x top * y) top ≡ min (x * y) top
    by (inr small) y = rw (min-eq_left small) refl
    by (inl large) zero =
        let a : min x top * 0 ≡ 0 = omega arith in
        let b : x * 0 ≡ 0 = omega arith in
        rw (a, b) refl
    by (inl large) (suc y) =
        let some : top ≤ x = omega arith in
        let low : top ≤ top * suc y = times-positive top (suc y) (omega arith) in
        let high : top ≤ x * suc y = omega (arith, times-positive x (suc y) (omega arith)) in
        rw (min-eq_right some) (min-eq_right low ∙ sym (min-eq_right high))

-- one more size is multiplied
pub product-turn : (sizes : List ℕ) (i so_far size more top whole : ℕ) → i < length sizes → size ≡ get_or sizes i 0 → more ≡ min (so_far * size) top
    → min (so_far * product (drop i sizes)) top ≡ whole → min (more * product (drop (i + 1) sizes)) top ≡ whole
product-turn sizes i so_far size more top whole h s m is =
    let count = product (drop (i + 1) sizes) in
    let held = held-down (so_far * size) count top in
    let grouped : so_far * size * count ≡ so_far * (size * count) = omega arith in
    let split : product (drop i sizes) ≡ size * count = rw (drop_more sizes i 0 h, s) refl in
    ap (λ n. min (n * count) top) m ∙ held ∙ ap (λ n. min n top) (grouped ∙ ap (λ n. so_far * n) (sym split)) ∙ is

pub product-end : (sizes : List ℕ) (i so_far top whole : ℕ) → length sizes ≤ i → so_far ≤ top → min (so_far * product (drop i sizes)) top ≡ whole → so_far ≡ whole
product-end sizes i so_far top whole h low is =
    let none : product (drop i sizes) ≡ 1 = rw (drop_all i sizes h) refl in
    let one : so_far * product (drop i sizes) ≡ so_far = rw none (omega arith) in
    sym (min-eq_left low) ∙ ap (λ n. min n top) (sym one) ∙ is
