-- The digit at a place of a number, and where digits that go round come to a chosen one.
use Rattle.std.proofs.Common.{◌≡◌, sym, ap, ◌∙◌, arith, ℕ, zero, suc, ◌+◌, ◌-◌, ◌*◌, ◌/◌, ◌%◌, ◌<◌, ◌≤◌, min, inl, inr, true, List, [], ◌∷◌, length, get_or, drop, nat_lt}
use Rattle.std.proofs.lemmas.Bool.{and_parts, ltb-true, cases_lt}
use Rattle.std.proofs.lemmas.Nat.{div-mul-add, div_below, mod_below, div-add-mod', le-div}
use native.Mathlib.Nat.{mod-eq_of_lt, add-mul-div_right, add-mul-mod_self_right, mul_assoc, mod-add-mod}
use Rattle.cube_space.specs.Radix.{product, are_digits, number_of}
use Rattle.cube_space.proofs.Radix.{number-below}

-- ---- a number by its digits

product-split : (sizes : List ℕ) (place : ℕ) → place < length sizes → (more : ℕ) × (product sizes ≡ more * (get_or sizes place 0 * product (drop (suc place) sizes)))
product-split [] place low = absurd (omega (arith, low))
product-split (size ∷ sizes) zero low = (1, omega arith)
product-split (size ∷ sizes) (suc place) low =
    let rest = product-split sizes place (omega (arith, low)) in
    let all : product sizes ≡ rest.0 * (get_or sizes place 0 * product (drop (suc place) sizes)) = rest.1 in
    (size * rest.0, ap (λ n. size * n) all ∙ sym (mul_assoc size rest.0 (get_or sizes place 0 * product (drop (suc place) sizes))))

pub positive-right : (a b n : ℕ) → n < a * b → 0 < b
positive-right a zero n less = absurd (omega (arith, less))
positive-right a (suc b) n less = omega arith

pub positive-left : (a b n : ℕ) → n < a * b → 0 < a
positive-left zero b n less = absurd (omega (arith, less))
positive-left (suc a) b n less = omega arith

pub digit-at : (sizes digits : List ℕ) (place : ℕ) → are_digits sizes digits ≡ true → place < length sizes
    → number_of sizes digits / product (drop (suc place) sizes) % get_or sizes place 0 ≡ get_or digits place 0
digit-at [] digits place are low = absurd (omega (arith, low))
digit-at (size ∷ sizes) [] place are low = absurd (cc)
digit-at (size ∷ sizes) (digit ∷ digits) zero are low =
    let parts = and_parts (nat_lt digit size) (are_digits sizes digits) are in
    ap (λ n. n % size) (div-mul-add digit (product sizes) (number_of sizes digits) (number-below sizes digits parts.1))
    ∙ mod-eq_of_lt (ltb-true digit size parts.0)
digit-at (size ∷ sizes) (digit ∷ digits) (suc place) are low =
    let parts = and_parts (nat_lt digit size) (are_digits sizes digits) are in
    let split = product-split sizes place (omega (arith, low)) in
    by (get_or sizes place 0) (product (drop (suc place) sizes)) split.0 (number_of sizes digits) (product sizes) split.1 (number-below sizes digits parts.1)
    ∙ digit-at sizes digits place parts.1 (omega (arith, low))
  where
    by : (t w k r p : ℕ) → p ≡ k * (t * w) → r < p → (digit * p + r) / w % t ≡ r / w % t
    by t w k r p is less =
        let some : 0 < w = positive-right (k * t) w r (omega (arith, less, is, mul_assoc k t w)) in
        let e : digit * p + r ≡ r + (digit * k * t) * w = ap (λ n. digit * n + r) is ∙ flat in
        ap (λ n. n / w % t) e ∙ ap (λ n. n % t) (add-mul-div_right r (digit * k * t) some) ∙ add-mul-mod_self_right (r / w) (digit * k) t
      where
        flat : digit * (k * (t * w)) + r ≡ r + digit * k * t * w
        flat = let one = mul_assoc digit k (t * w) in let two = mul_assoc (digit * k) t w in omega (arith, one, two)

-- ---- where digits come to a chosen one

-- a number before the jump has another digit
pub passed-digit : (number worth size gap chosen : ℕ) → 0 < worth → ((k : ℕ) → k < gap → (number / worth % size + k) % size ≡ chosen → ⊥)
    → (n : ℕ) → number ≤ n → n < number - number % worth + gap * worth → n / worth % size ≡ chosen → ⊥
passed-digit number worth size gap chosen some none n low less is =
    let begin = div-add-mod' number worth in
    let q = number / worth in
    let above : q ≤ n / worth = le-div q n worth some (omega (arith, begin, low)) in
    let e : number - number % worth + gap * worth ≡ (q + gap) * worth = spread q gap worth (number % worth) number begin in
    let below : n / worth < q + gap = div_below n worth (q + gap) some (omega (arith, less, e)) in
    let k : ℕ = n / worth - q in
    let whole : n / worth ≡ q + k = omega (arith, above) in
    none k (omega (arith, below, above)) (mod-add-mod q size k ∙ ap (λ m. m % size) (sym whole) ∙ is)
  where
    spread : (q g w r m : ℕ) → q * w + r ≡ m → m - r + g * w ≡ (q + g) * w
    spread q g w r m is = omega (arith, is)

-- digits that go round
pub goes-round : (digit chosen size : ℕ) → digit < size → (k : ℕ) → k < size - digit + chosen → chosen < digit → (digit + k) % size ≡ chosen → ⊥
goes-round digit chosen size low k less before is = elim (cases_lt (digit + k) size) [
  | inl within ↦ (let same : (digit + k) % size ≡ digit + k = mod-eq_of_lt within in omega (arith, same, is, before))
  | inr past ↦ (let e : digit + k ≡ digit + k - size + 1 * size = omega (arith, past) in
      let short : digit + k - size < size = omega (arith, less, before, low, past) in
      let same : (digit + k) % size ≡ digit + k - size = ap (λ n. n % size) e ∙ add-mul-mod_self_right (digit + k - size) 1 size ∙ mod-eq_of_lt short in
      omega (arith, same, is, less, past))
]

pub goes-on : (digit chosen size : ℕ) → digit < size → (k : ℕ) → k < chosen - digit → (digit + k) % size ≡ chosen → ⊥
goes-on digit chosen size low k less is =
    let most = le_self (digit + k) size in omega (arith, most, is, less)
  where
    le_self : (n s : ℕ) → n % s ≤ n
    le_self n s = let whole = div-add-mod' n s in omega (arith, whole)

-- ---- a jump, held down to what a word holds

pub jumps-on : (number worth gap product sum top : ℕ) → 0 < worth → 0 < gap → number < top → product ≡ min (gap * worth) top → sum ≡ min (number - number % worth + product) top → number < sum
jumps-on number worth gap product sum top some gap_some low is all =
    let begin = div-add-mod' number worth in
    let rest = mod_below number worth some in
    let wide = times gap worth gap_some in
    omega (arith, begin, rest, wide, low, is, all)
  where
    times : (g w : ℕ) → 0 < g → w ≤ g * w
    times zero w none = absurd (omega (arith, none))
    times (suc g) w more = omega arith

pub jumps-within : (start worth gap product sum top : ℕ) → product ≡ min (gap * worth) top → sum ≡ min (start + product) top → sum ≤ start + gap * worth
jumps-within start worth gap product sum top is all = omega (arith, is, all)
