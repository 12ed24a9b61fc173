-- Shares that are rounded down, but the first so many that aren't whole rounded up.
use Rattle.std.proofs.Common.{◌≡◌, ◌≢◌, refl, sym, ap, ◌∙◌, arith, ℕ, zero, suc, pred, ◌+◌, ◌-◌, ◌*◌, ◌/◌, ◌%◌, mul_comm, ◌<◌, ◌≤◌, ◌⊎◌, inl, inr, mul-pos, leb, ◌++◌, length, drop, drop-cons, get_or, append_assoc, append-nil, Bool, true, false, not, ◌&&◌, ltb, ℤ, pos, negsuc, ◌+ℤ◌, ◌-ℤ◌, ◌*ℤ◌, unsigned_abs, List, [], ◌∷◌, if◌then◌else◌}
use Rattle.std.specs.List.{AllZip}
use Rattle.std.proofs.Math.IntN.{*ℤ-zero, zero-*ℤ, *ℤ-negsuc}
use Rattle.std.proofs.Math.Nat.{mul-le-mul}
use Rattle.std.proofs.lemmas.Bool.{and_parts, and_from, not-true, cases_lt, lt-ltb}
use Rattle.std.proofs.lemmas.Int.{ints}
use Rattle.cell_spread.specs.Shares.{floor_ratio, is_whole_ratio, sum_of, floors_of, goes_up, rounded_up, rest_of, shared_out}
use Rattle.cube_fixed.specs.Range.{IsInRange, is_in_range}
use Rattle.std.proofs.lemmas.Nat.{div-mul-add}
use Rattle.std.proofs.lemmas.List.{drop_all}
use Rattle.std.proofs.lemmas.Bool.Decides.{nat_tests}
use Rattle.cell_spread.specs.Spread.{are_in_range}
use Rattle.cell_spread.specs.Inside.Remainders.{left_of, lefts_of}
use Rattle.cell_spread.proofs.Ratios.{times-plus, plus-times, turned, turned-plus, turned-zero, turned-own, some-size, is-floor, whole-none, none-whole}

pub drop-at : {X : Type 0} (xs : List X) (from : ℕ) (d : X) → from < length xs → drop from xs ≡ get_or xs from d ∷ drop (from + 1) xs
drop-at xs from d low = let e : suc from ≡ from + 1 = omega arith in drop-cons xs from d low ∙ ap (λ n. get_or xs from d ∷ drop n xs) e

near-above : (f n d : ℤ) (left : ℕ) → (f *ℤ pos (unsigned_abs d)) +ℤ pos left ≡ turned d n → left < unsigned_abs d → (left ≡ 0 → ⊥) → unsigned_abs (((f +ℤ pos 1) *ℤ d) -ℤ n) < unsigned_abs d
near-above f n (pos k) left split less some =
    let more = plus-times f (pos 1) (pos k) in
    omega (arith, ints, split, less, some, more)
near-above f n (negsuc k) left split less some =
    let turn = *ℤ-negsuc (f +ℤ pos 1) k in
    let more = plus-times f (pos 1) (pos (suc k)) in
    omega (arith, ints, split, less, some, more, turn)

module _ (a t : ℤ) (some : t ≢ pos 0) where
  abbrev k : ℕ
  k = unsigned_abs t

  abbrev down_of : ℤ → ℤ
  down_of v = floor_ratio (a *ℤ v) t

  -- ---- what is left of all shares is a whole number of times the total

  pub all-split : (parts : List (ℕ × ℤ)) → (sum_of (floors_of a t parts) *ℤ pos k) +ℤ pos (lefts_of a t parts) ≡ turned t (a *ℤ sum_of parts)
  all-split [] =
      let none = zero-*ℤ (pos k) in
      let end : turned t (a *ℤ pos 0) ≡ pos 0 = ap (turned t) (*ℤ-zero a) ∙ turned-zero t in
      omega (arith, ints, none, end)
  all-split (one ∷ parts) =
      let rest = all-split parts in
      let here = (is-floor (a *ℤ one.1) t some).split in
      let sums = plus-times (down_of one.1) (sum_of (floors_of a t parts)) (pos k) in
      let whole : turned t (a *ℤ (one.1 +ℤ sum_of parts)) ≡ turned t (a *ℤ one.1) +ℤ turned t (a *ℤ sum_of parts) =
      ap (turned t) (times-plus a one.1 (sum_of parts)) ∙ turned-plus t (a *ℤ one.1) (a *ℤ sum_of parts) in
      omega (arith, ints, rest, here, sums, whole)

  -- how many shares aren't whole
  abbrev pub uneven : List (ℕ × ℤ) → ℕ
  uneven [] = 0
  uneven (one ∷ parts) = (if is_whole_ratio (a *ℤ one.1) t then 0 else 1) + uneven parts

  pub lefts-low : (parts : List (ℕ × ℤ)) → lefts_of a t parts ≤ uneven parts * k
  lefts-low [] = omega arith
  lefts-low (one ∷ parts) = by (is_whole_ratio (a *ℤ one.1) t) refl (lefts-low parts)
    where
      by : (b : Bool) → is_whole_ratio (a *ℤ one.1) t ≡ b → lefts_of a t parts ≤ uneven parts * k → lefts_of a t (one ∷ parts) ≤ uneven (one ∷ parts) * k
      by true on rest = let none = whole-none (a *ℤ one.1) t on in rw on (omega (arith, rest, none))
      by false off rest =
          let less = (is-floor (a *ℤ one.1) t some).less in
          let more : (1 + uneven parts) * k ≡ k + uneven parts * k = omega arith in
          rw off (omega (arith, rest, less, more))

  -- ---- sums

  pub sum-rounded : (up : ℕ) (parts : List (ℕ × ℤ)) → up ≤ uneven parts → sum_of (rounded_up a t up parts) ≡ sum_of (floors_of a t parts) +ℤ pos up
  sum-rounded up [] low = let none : up ≡ 0 = omega (arith, low) in rw none refl
  sum-rounded zero (one ∷ parts) low = let rest = sum-rounded zero parts (omega arith) in omega (arith, ints, rest)
  sum-rounded (suc up) (one ∷ parts) low = by (is_whole_ratio (a *ℤ one.1) t) refl (λ low. sum-rounded (suc up) parts low) (λ low. sum-rounded up parts low)
    where
      some_up : ltb 0 (suc up) ≡ true
      some_up = lt-ltb 0 (suc up) (omega arith)

      by : (b : Bool) → is_whole_ratio (a *ℤ one.1) t ≡ b
          → (suc up ≤ uneven parts → sum_of (rounded_up a t (suc up) parts) ≡ sum_of (floors_of a t parts) +ℤ pos (suc up))
          → (up ≤ uneven parts → sum_of (rounded_up a t up parts) ≡ sum_of (floors_of a t parts) +ℤ pos up)
          → sum_of (rounded_up a t (suc up) (one ∷ parts)) ≡ sum_of (floors_of a t (one ∷ parts)) +ℤ pos (suc up)
      by true on same less =
          let fewer : suc up ≤ 0 + uneven parts = rw on at low in
          let rest = same (omega (arith, fewer)) in
          rw (on, some_up) (omega (arith, ints, rest))
      by false off same less =
          let fewer : suc up ≤ 1 + uneven parts = rw off at low in
          let rest = less (omega (arith, fewer)) in
          rw (off, some_up) (omega (arith, ints, rest))

  -- ---- each number is near its share

  abbrev pub IsNear : ℕ × ℤ → ℕ × ℤ → Type 0
  IsNear part got = (got.0 ≡ part.0) × (unsigned_abs ((got.1 *ℤ t) -ℤ (a *ℤ part.1)) < k)

  near-down : (v : ℤ) → unsigned_abs ((down_of v *ℤ t) -ℤ (a *ℤ v)) < k
  near-down v =
      let is = is-floor (a *ℤ v) t some in
      let less = is.less in
      omega (arith, ints, less)

  near-up : (v : ℤ) → is_whole_ratio (a *ℤ v) t ≡ false → unsigned_abs (((down_of v +ℤ pos 1) *ℤ t) -ℤ (a *ℤ v)) < k
  near-up v off =
      let is = is-floor (a *ℤ v) t some in
      near-above (down_of v) (a *ℤ v) t (left_of (a *ℤ v) t) is.split is.less
      (λ none. (let on = none-whole (a *ℤ v) t none in let clash : true ≡ false = sym on ∙ off in cc))

  pub all-near : (up : ℕ) (parts : List (ℕ × ℤ)) → AllZip IsNear parts (rounded_up a t up parts)
  all-near up [] = tt
  all-near up (one ∷ parts) = by (goes_up a t up one.1) refl (all-near (pred up) parts) (all-near up parts)
    where
      by : (b : Bool) → goes_up a t up one.1 ≡ b → AllZip IsNear parts (rounded_up a t (pred up) parts) → AllZip IsNear parts (rounded_up a t up parts)
          → AllZip IsNear (one ∷ parts) (rounded_up a t up (one ∷ parts))
      by true on less same =
          let off : is_whole_ratio (a *ℤ one.1) t ≡ false = not-true (is_whole_ratio (a *ℤ one.1) t) (and_parts (ltb 0 up) (not (is_whole_ratio (a *ℤ one.1) t)) on).1 in
          rw on ((refl, near-up one.1 off), less)
      by false off less same = rw off ((refl, near-down one.1), same)

-- ---- just as many are rounded up as makes them the amount

exact : (d : ℤ) (k left : ℕ) → 0 < k → d *ℤ pos k ≡ pos left → (d ≡ pos (unsigned_abs d)) × (unsigned_abs d * k ≡ left)
exact (pos n) k left some is = (refl, ap unsigned_abs is)
exact (negsuc n) k left some is =
    let big : 0 < suc n * k = mul-pos {m = suc n} {n = k} (omega arith) some in
    absurd (omega (arith, ints, is, big))

no-more : (m n k : ℕ) → 0 < k → m * k ≤ n * k → m ≤ n
no-more m n k some le = elim (cases_lt n m) [
  | inl less ↦ (let more : (n + 1) * k ≤ m * k = mul-le-mul (omega (arith, less)) (omega arith) in
      let e : (n + 1) * k ≡ n * k + k = omega arith in
      absurd (omega (arith, le, more, e, some)))
  | inr upto ↦ upto
]

module _ (a : ℤ) (parts : List (ℕ × ℤ)) (some : sum_of parts ≢ pos 0) where
  abbrev t : ℤ
  t = sum_of parts

  abbrev floors : ℤ
  floors = sum_of (floors_of a t parts)

  abbrev gap : ℤ
  gap = a -ℤ floors

  gap-times : gap *ℤ pos (unsigned_abs t) ≡ pos (lefts_of a t parts)
  gap-times =
      let split = all-split a t some parts in
      let own : turned t (a *ℤ t) ≡ a *ℤ pos (unsigned_abs t) = turned-own a t in
      let whole : gap +ℤ floors ≡ a = omega (arith, ints) in
      let times : (gap +ℤ floors) *ℤ pos (unsigned_abs t) ≡ a *ℤ pos (unsigned_abs t) = ap (λ (z : ℤ). z *ℤ pos (unsigned_abs t)) whole in
      let sums = plus-times gap floors (pos (unsigned_abs t)) in
      omega (arith, ints, split, own, times, sums)

  rest-is : (gap ≡ pos (rest_of a parts)) × (rest_of a parts * unsigned_abs t ≡ lefts_of a t parts)
  rest-is = exact gap (unsigned_abs t) (lefts_of a t parts) (some-size t some) gap-times

  pub lefts-times : rest_of a parts * unsigned_abs t ≡ lefts_of a t parts
  lefts-times = rest-is.1

  pub rest-low : rest_of a parts ≤ uneven a t some parts
  rest-low =
      let low = lefts-low a t some parts in
      let is = rest-is.1 in
      no-more (rest_of a parts) (uneven a t some parts) (unsigned_abs t) (some-size t some) (omega (arith, low, is))

  pub shared-sum : sum_of (shared_out a parts) ≡ a
  unfolding shared_out
  shared-sum =
      let sum = sum-rounded a t some (rest_of a parts) parts rest-low in
      let is = rest-is.0 in
      omega (arith, ints, sum, is)

  pub shared-near : AllZip (IsNear a t some) parts (shared_out a parts)
  unfolding shared_out
  shared-near = all-near a t some (rest_of a parts) parts

-- ---- one share after another

pub lefts-at : (a t : ℤ) (parts : List (ℕ × ℤ)) (i : ℕ) (d : ℕ × ℤ) → i < length parts → lefts_of a t (drop i parts) ≡ left_of (a *ℤ (get_or parts i d).1) t + lefts_of a t (drop (i + 1) parts)
lefts-at a t parts i d low = ap (lefts_of a t) (drop-at parts i d low)

pub rest-step : (a t : ℤ) (parts : List (ℕ × ℤ)) (i x left : ℕ) (d : ℕ × ℤ) → i < length parts → x ≡ left_of (a *ℤ (get_or parts i d).1) t → left + lefts_of a t (drop i parts) ≡ lefts_of a t parts
    → left + x + lefts_of a t (drop (i + 1) parts) ≡ lefts_of a t parts
rest-step a t parts i x left d low own before = let at = lefts-at a t parts i d low in omega (arith, own, before, at)

pub rest-size : (size i x left : ℕ) → left ≤ i * size → x < size → left + x ≤ (i + 1) * size
rest-size size i x left before less =
    let e : (i + 1) * size ≡ i * size + size = omega arith in
    omega (arith, before, less, e)

pub rest-ends : (a t : ℤ) (parts : List (ℕ × ℤ)) (i left : ℕ) → length parts ≤ i → left + lefts_of a t (drop i parts) ≡ lefts_of a t parts → left ≡ lefts_of a t parts
rest-ends a t parts i left past is =
    let none : lefts_of a t (drop i parts) ≡ 0 = ap (lefts_of a t) (drop_all i parts past) in
    omega (arith, is, none)

-- so the rest is what is left, by the total
pub rest-is-left : (a : ℤ) (parts : List (ℕ × ℤ)) (left : ℕ) → sum_of parts ≢ pos 0 → left ≡ lefts_of a (sum_of parts) parts → left / unsigned_abs (sum_of parts) ≡ rest_of a parts
rest-is-left a parts left some is =
    let times = lefts-times a parts some in
    let own : left ≡ rest_of a parts * unsigned_abs (sum_of parts) + 0 = omega (arith, is, times) in
    ap (λ n. n / unsigned_abs (sum_of parts)) own ∙ div-mul-add (rest_of a parts) (unsigned_abs (sum_of parts)) 0 (some-size (sum_of parts) some)

pub goes-on : (a t : ℤ) (up : ℕ) (v : ℤ) → 0 < up → 0 < left_of (a *ℤ v) t → goes_up a t up v ≡ true
goes-on a t up v many left = and_from (ltb 0 up) (not (is_whole_ratio (a *ℤ v) t)) (lt-ltb 0 up many) (by (is_whole_ratio (a *ℤ v) t) refl)
  where
    by : (b : Bool) → is_whole_ratio (a *ℤ v) t ≡ b → not (is_whole_ratio (a *ℤ v) t) ≡ true
    by true on = let none = whole-none (a *ℤ v) t on in absurd (omega (arith, left, none))
    by false off = rw off refl

pub ends-up : (a t : ℤ) (up : ℕ) (v : ℤ) → (up ≡ 0) ⊎ (left_of (a *ℤ v) t ≡ 0) → goes_up a t up v ≡ false
ends-up a t up v (inl none) = rw none refl
ends-up a t up v (inr none) = let on = none-whole (a *ℤ v) t none in rw on (by (ltb 0 up))
  where
    by : (b : Bool) → (b && not true) ≡ false
    by true = refl
    by false = refl

pub one-less : (up : ℕ) → up - 1 ≡ pred up
one-less zero = omega arith
one-less (suc up) = omega arith

-- the next one is a share rounded by that
pub rounded-at : (a t : ℤ) (up : ℕ) (parts : List (ℕ × ℤ)) (i : ℕ) (d : ℕ × ℤ) (share : ℤ) (left : ℕ) → i < length parts
    → share ≡ (if goes_up a t up (get_or parts i d).1 then floor_ratio (a *ℤ (get_or parts i d).1) t +ℤ pos 1 else floor_ratio (a *ℤ (get_or parts i d).1) t)
    → left ≡ (if goes_up a t up (get_or parts i d).1 then pred up else up)
    → rounded_up a t up (drop i parts) ≡ ((get_or parts i d).0, share) ∷ rounded_up a t left (drop (i + 1) parts)
rounded-at a t up parts i d share left low number next =
    ap (rounded_up a t up) (drop-at parts i d low) ∙ by (goes_up a t up (get_or parts i d).1) refl number next
  where
    one : ℕ × ℤ
    one = get_or parts i d

    by : (b : Bool) → goes_up a t up one.1 ≡ b
        → share ≡ (if goes_up a t up one.1 then floor_ratio (a *ℤ one.1) t +ℤ pos 1 else floor_ratio (a *ℤ one.1) t)
        → left ≡ (if goes_up a t up one.1 then pred up else up)
        → rounded_up a t up (one ∷ drop (i + 1) parts) ≡ (one.0, share) ∷ rounded_up a t left (drop (i + 1) parts)
    by true on number next =
        let share_is : share ≡ floor_ratio (a *ℤ one.1) t +ℤ pos 1 = rw on at number in
        let left_is : left ≡ pred up = rw on at next in
        rw on (ap (λ (z : ℤ). (one.0, z) ∷ rounded_up a t (pred up) (drop (i + 1) parts)) (sym share_is) ∙ ap (λ (n : ℕ). (one.0, share) ∷ rounded_up a t n (drop (i + 1) parts)) (sym left_is))
    by false off number next =
        let share_is : share ≡ floor_ratio (a *ℤ one.1) t = rw off at number in
        let left_is : left ≡ up = rw off at next in
        rw off (ap (λ (z : ℤ). (one.0, z) ∷ rounded_up a t up (drop (i + 1) parts)) (sym share_is) ∙ ap (λ (n : ℕ). (one.0, share) ∷ rounded_up a t n (drop (i + 1) parts)) (sym left_is))

pub rounded-step : (a t : ℤ) (up : ℕ) (parts front whole : List (ℕ × ℤ)) (i : ℕ) (d : ℕ × ℤ) (share : ℤ) (left : ℕ) → i < length parts
    → share ≡ (if goes_up a t up (get_or parts i d).1 then floor_ratio (a *ℤ (get_or parts i d).1) t +ℤ pos 1 else floor_ratio (a *ℤ (get_or parts i d).1) t)
    → left ≡ (if goes_up a t up (get_or parts i d).1 then pred up else up)
    → front ++ rounded_up a t up (drop i parts) ≡ whole
    → (front ++ ((get_or parts i d).0, share) ∷ []) ++ rounded_up a t left (drop (i + 1) parts) ≡ whole
rounded-step a t up parts front whole i d share left low number next before =
    append_assoc front (((get_or parts i d).0, share) ∷ []) (rounded_up a t left (drop (i + 1) parts)) ∙ ap (λ xs. front ++ xs) (sym (rounded-at a t up parts i d share left low number next)) ∙ before

pub rounded-ends : (a t : ℤ) (up : ℕ) (parts front whole : List (ℕ × ℤ)) (i : ℕ) → length parts ≤ i → front ++ rounded_up a t up (drop i parts) ≡ whole → front ≡ whole
rounded-ends a t up parts front whole i past is =
    sym (append-nil front) ∙ ap (λ xs. front ++ rounded_up a t up xs) (sym (drop_all i parts past)) ∙ is

all-front : (xs ys : List (ℕ × ℤ)) → are_in_range (xs ++ ys) ≡ (are_in_range xs && are_in_range ys)
all-front [] ys = refl
all-front (x ∷ xs) ys = ap (λ b. is_in_range x.1 && b) (all-front xs ys) ∙ apart (is_in_range x.1) (are_in_range xs) (are_in_range ys)
  where
    apart : (a b c : Bool) → (a && (b && c)) ≡ ((a && b) && c)
    apart true b c = refl
    apart false b c = refl

in-range : (z : ℤ) → IsInRange z → is_in_range z ≡ true
in-range z small = within (unsigned_abs z) 9000000000000000000 small
  where
    within : (k most : ℕ) → k ≤ most → leb k most ≡ true
    within k most low = grind (arith, nat_tests, low)

out-of-range : (z : ℤ) → (IsInRange z → ⊥) → is_in_range z ≡ false
out-of-range z large = without (unsigned_abs z) 9000000000000000000 large
  where
    without : (k most : ℕ) → (k ≤ most → ⊥) → leb k most ≡ false
    without k most high = let past : most < k = omega (arith, high) in grind (arith, nat_tests, past)

pub range-push : (xs : List (ℕ × ℤ)) (x : ℕ) (z : ℤ) → are_in_range xs ≡ true → IsInRange z → are_in_range (xs ++ (x, z) ∷ []) ≡ true
range-push xs x z on small = let own = in-range z small in all-front xs ((x, z) ∷ []) ∙ rw (on, own) refl

pub range-fails : (a t : ℤ) (up : ℕ) (parts front whole : List (ℕ × ℤ)) (i : ℕ) (d : ℕ × ℤ) (share : ℤ) (left : ℕ) → i < length parts
    → share ≡ (if goes_up a t up (get_or parts i d).1 then floor_ratio (a *ℤ (get_or parts i d).1) t +ℤ pos 1 else floor_ratio (a *ℤ (get_or parts i d).1) t)
    → left ≡ (if goes_up a t up (get_or parts i d).1 then pred up else up)
    → front ++ rounded_up a t up (drop i parts) ≡ whole → (IsInRange share → ⊥) → are_in_range whole ≡ false
range-fails a t up parts front whole i d share left low number next before large =
    let rest : List (ℕ × ℤ) = rounded_up a t left (drop (i + 1) parts) in
    let off = out-of-range share large in
    ap are_in_range (sym before ∙ ap (λ xs. front ++ xs) (rounded-at a t up parts i d share left low number next))
    ∙ all-front front (((get_or parts i d).0, share) ∷ rest) ∙ rw off (none (are_in_range front))
  where
    none : (b : Bool) → (b && false) ≡ false
    none true = refl
    none false = refl

pub quotient-low : (n d k : ℕ) → 0 < d → n ≤ k * d → n / d ≤ k
quotient-low n d k some low =
    let e : d * (n / d) + n % d ≡ n = omega arith in
    let turn : n / d * d ≡ d * (n / d) = mul_comm (n / d) d in
    no-more (n / d) k d some (omega (arith, e, turn, low))

-- ---- the same of equal numbers

pub three : {X : Type 0} (f : ℤ → ℤ → ℤ → X) {a b c x y z : ℤ} → a ≡ x → b ≡ y → c ≡ z → f a b c ≡ f x y z
three f {a = a} {b = b} {c = c} {x = x} {y = y} {z = z} p q r = ap (λ k. f k b c) p ∙ ap (λ k. f x k c) q ∙ ap (λ k. f x y k) r

pub rounded-same : (parts : List (ℕ × ℤ)) {a t x y : ℤ} {u v : ℕ} → a ≡ x → t ≡ y → u ≡ v → rounded_up a t u parts ≡ rounded_up x y v parts
rounded-same parts {a = a} {t = t} {x = x} {y = y} {u = u} {v = v} p q r =
    ap (λ k. rounded_up k t u parts) p ∙ ap (λ k. rounded_up x k u parts) q ∙ ap (λ n. rounded_up x y n parts) r
