-- Numbers and the digits that write them: a list of digits stands in the list of all of them at the place of its number.
use Rattle.std.proofs.Common.{◌≡◌, ℕ, zero, suc, ◌+◌, ◌*◌, ◌/◌, ◌%◌, ◌<◌, ◌≤◌, true, List, [], ◌∷◌, map, length, get_or, take, refl, ap, sym, ◌∙◌, arith, lit<, zero-add, length-append, nat_lt}
use Rattle.std.specs.List.{flat_map, range_with_len}
use Rattle.std.proofs.lemmas.Bool.{and_parts, and_from, ltb-true, lt-ltb}
use Rattle.std.proofs.lemmas.List.{map-id, get_or-map, length-map}
use Rattle.std.proofs.lemmas.List.Concat.{get_or-flat_map}
use Rattle.std.proofs.lemmas.List.FromFn.{length-range_with_len, get_or-range_with_len, take-map-range_with_len}
use Rattle.std.proofs.lemmas.Nat.{mul-add-lt, div_below, mod_below, div-add-mod', mul-le}
use Rattle.cube_space.specs.Radix.{product, are_digits, all_digits, number_of}

-- a number is below the count of all lists of digits
pub number-below : (sizes digits : List ℕ) → are_digits sizes digits ≡ true → number_of sizes digits < product sizes
number-below [] [] h = lit< tt
number-below [] (digit ∷ digits) h = absurd (cc)
number-below (size ∷ sizes) [] h = absurd (cc)
number-below (size ∷ sizes) (digit ∷ digits) h =
    let parts = and_parts (nat_lt digit size) (are_digits sizes digits) h in
    omega (arith, mul-add-lt digit (product sizes) (number_of sizes digits) size (ltb-true digit size parts.0) (number-below sizes digits parts.1))

-- there is one digit for each size
pub digits-length : (sizes digits : List ℕ) → are_digits sizes digits ≡ true → length digits ≡ length sizes
digits-length [] [] h = refl
digits-length [] (digit ∷ digits) h = absurd (cc)
digits-length (size ∷ sizes) [] h = absurd (cc)
digits-length (size ∷ sizes) (digit ∷ digits) h =
    let parts = and_parts (nat_lt digit size) (are_digits sizes digits) h in
    omega (arith, digits-length sizes digits parts.1)

-- each digit is below its size
pub digit-below : (sizes digits : List ℕ) (n d e : ℕ) → are_digits sizes digits ≡ true → n < length sizes → get_or digits n d < get_or sizes n e
digit-below [] [] n d e h within = absurd (omega arith)
digit-below [] (digit ∷ digits) n d e h within = absurd (cc)
digit-below (size ∷ sizes) [] n d e h within = absurd (cc)
digit-below (size ∷ sizes) (digit ∷ digits) zero d e h within = ltb-true digit size (and_parts (nat_lt digit size) (are_digits sizes digits) h).0
digit-below (size ∷ sizes) (digit ∷ digits) (suc n) d e h within =
    let parts = and_parts (nat_lt digit size) (are_digits sizes digits) h in
    let rest : n < length sizes = omega arith in
    digit-below sizes digits n d e parts.1 rest

length-flat_map-even : {X A : Type 0} (f : X → List A) (count : ℕ) → ((x : X) → length (f x) ≡ count) → (xs : List X) → length (flat_map f xs) ≡ length xs * count
length-flat_map-even f count even [] = omega arith
length-flat_map-even f count even (x ∷ xs) =
    omega (arith, length-append (f x) (flat_map f xs), even x, length-flat_map-even f count even xs)

pub take-range : (n k : ℕ) → k ≤ n → take k (range_with_len 0 n) ≡ range_with_len 0 k
take-range n k h =
    let all = map-id (range_with_len 0 n) in
    let few = map-id (range_with_len 0 k) in
    ap (take k) (sym all) ∙ take-map-range_with_len (λ x. x) 0 n k h ∙ few

-- as many lists of digits as the product of the sizes
pub length-all_digits : (sizes : List ℕ) → length (all_digits sizes) ≡ product sizes
length-all_digits [] = refl
length-all_digits (size ∷ sizes) =
    let begun : ℕ → List (List ℕ) = λ digit. map (λ digits. digit ∷ digits) (all_digits sizes) in
    let even : (digit : ℕ) → length (begun digit) ≡ product sizes = λ digit. length-map (all_digits sizes) (λ digits. digit ∷ digits) ∙ length-all_digits sizes in
    length-flat_map-even begun (product sizes) even (range_with_len 0 size) ∙ ap (λ n. n * product sizes) (length-range_with_len 0 size)

-- digits stand in the list of all digits at the place of their number
pub all_digits-at : (sizes digits d : List ℕ) → are_digits sizes digits ≡ true → get_or (all_digits sizes) (number_of sizes digits) d ≡ digits
all_digits-at [] [] d h = refl
all_digits-at [] (digit ∷ digits) d h = absurd (cc)
all_digits-at (size ∷ sizes) [] d h = absurd (cc)
all_digits-at (size ∷ sizes) (digit ∷ digits) d h =
    let parts = and_parts (nat_lt digit size) (are_digits sizes digits) h in
    let below : digit < size = ltb-true digit size parts.0 in
    let begun : ℕ → List (List ℕ) = λ digit. map (λ digits. digit ∷ digits) (all_digits sizes) in
    let firsts = range_with_len 0 size in
    let rest = number_of sizes digits in
    let even : (digit : ℕ) → length (begun digit) ≡ product sizes = λ digit. length-map (all_digits sizes) (λ digits. digit ∷ digits) ∙ length-all_digits sizes in
    let here : get_or firsts digit 0 ≡ digit = get_or-range_with_len 0 size digit 0 below ∙ zero-add digit in
    let within : digit < length firsts = omega (arith, length-range_with_len 0 size) in
    let short : rest < length (begun (get_or firsts digit 0)) = omega (arith, even (get_or firsts digit 0), number-below sizes digits parts.1) in
    let before : length (flat_map begun (take digit firsts)) ≡ digit * product sizes =
    length-flat_map-even begun (product sizes) even (take digit firsts) ∙ ap (λ xs. length xs * product sizes) (take-range size digit (omega arith)) ∙ ap (λ n. n * product sizes) (length-range_with_len 0 digit) in
    let among : rest < length (all_digits sizes) = omega (arith, length-all_digits sizes, number-below sizes digits parts.1) in
    ap (λ n. get_or (flat_map begun firsts) (n + rest) d) (sym before)
    ∙ get_or-flat_map begun firsts digit rest 0 d within short
    ∙ ap (λ n. get_or (begun n) rest d) here
    ∙ get_or-map (λ digits. digit ∷ digits) (all_digits sizes) rest d d among
    ∙ ap (λ digits. digit ∷ digits) (all_digits-at sizes digits d parts.1)

-- digits of one number are the same
pub number-same : (sizes xs ys : List ℕ) → are_digits sizes xs ≡ true → are_digits sizes ys ≡ true → number_of sizes xs ≡ number_of sizes ys → xs ≡ ys
number-same sizes xs ys h i same =
    sym (all_digits-at sizes xs [] h) ∙ ap (λ n. get_or (all_digits sizes) n []) same ∙ all_digits-at sizes ys [] i

-- each number below the product of the sizes has digits
pub number-digits : (sizes : List ℕ) (n : ℕ) → n < product sizes → (digits : List ℕ) × (are_digits sizes digits ≡ true) × (number_of sizes digits ≡ n)
number-digits [] n h = ([], refl, omega arith)
number-digits (size ∷ sizes) n h =
    let count = product sizes in
    let some : 0 < count = number-digits-positive size count n h in
    let rest = number-digits sizes (n % count) (mod_below n count some) in
    ((n / count) ∷ rest.0, and_from _ _ (lt-ltb (n / count) size (div_below n count size some h)) rest.1, omega (arith, rest.2, div-add-mod' n count))
  where
    number-digits-positive : (size count n : ℕ) → n < size * count → 0 < count
    number-digits-positive size zero n h = absurd (omega arith)
    number-digits-positive size (suc count) n h = omega arith

-- no size is 0 where there are digits
pub product-positive : (sizes : List ℕ) (k d : ℕ) → 0 < product sizes → k < length sizes → 0 < get_or sizes k d
product-positive [] k d h within = absurd (omega arith)
product-positive (zero ∷ sizes) k d h within = absurd (omega arith)
product-positive (suc size ∷ sizes) zero d h within = omega arith
product-positive (suc size ∷ sizes) (suc k) d h within = product-positive sizes k d (positive_from (product sizes) h) (omega arith)
  where
    positive_from : (count : ℕ) → 0 < suc size * count → 0 < count
    positive_from zero h = absurd (omega arith)
    positive_from (suc count) h = omega arith

-- a number with no greater digit is no greater
pub number-at_most : (sizes xs ys : List ℕ) → are_digits sizes xs ≡ true → are_digits sizes ys ≡ true → ((k : ℕ) → k < length sizes → get_or xs k 0 ≤ get_or ys k 0) → number_of sizes xs ≤ number_of sizes ys
number-at_most [] xs ys h i least = omega arith
number-at_most (size ∷ sizes) [] ys h i least = absurd (cc)
number-at_most (size ∷ sizes) (x ∷ xs) [] h i least = absurd (cc)
number-at_most (size ∷ sizes) (x ∷ xs) (y ∷ ys) h i least =
    let here : x ≤ y = least 0 (omega arith) in
    let rest = number-at_most sizes xs ys (and_parts (nat_lt x size) (are_digits sizes xs) h).1 (and_parts (nat_lt y size) (are_digits sizes ys) i).1 (λ k less. least (suc k) (omega arith)) in
    omega (arith, rest, mul-le x (product sizes) y (product sizes) here (omega arith))

-- a number with a smaller digit at a place, and no greater one before, is smaller
pub number-smaller : (sizes xs ys : List ℕ) (n : ℕ) → are_digits sizes xs ≡ true → are_digits sizes ys ≡ true → n < length sizes → ((k : ℕ) → k < n → get_or xs k 0 ≤ get_or ys k 0)
    → get_or xs n 0 < get_or ys n 0 → number_of sizes xs < number_of sizes ys
number-smaller [] xs ys n h i within before here = absurd (omega arith)
number-smaller (size ∷ sizes) [] ys n h i within before here = absurd (cc)
number-smaller (size ∷ sizes) (x ∷ xs) [] n h i within before here = absurd (cc)
number-smaller (size ∷ sizes) (x ∷ xs) (y ∷ ys) zero h i within before here =
    let below = number-below sizes xs (and_parts (nat_lt x size) (are_digits sizes xs) h).1 in
    omega (arith, below, mul-le (x + 1) (product sizes) y (product sizes) (omega arith) (omega arith))
number-smaller (size ∷ sizes) (x ∷ xs) (y ∷ ys) (suc n) h i within before here =
    let first : x ≤ y = before 0 (omega arith) in
    let rest = number-smaller sizes xs ys n (and_parts (nat_lt x size) (are_digits sizes xs) h).1 (and_parts (nat_lt y size) (are_digits sizes ys) i).1 (omega arith) (λ k less. before (suc k) (omega arith)) here in
    omega (arith, rest, mul-le x (product sizes) y (product sizes) first (omega arith))
