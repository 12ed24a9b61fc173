-- Ratios rounded down, and what is left of them.
use Rattle.std.proofs.Common.{◌≡◌, ◌≢◌, refl, sym, ap, ◌∙◌, arith, ℕ, zero, suc, ◌+◌, ◌-◌, ◌*◌, ◌/◌, ◌%◌, ◌<◌, ◌≤◌, true, ℤ, pos, negsuc, ◌+ℤ◌, ◌-ℤ◌, ◌*ℤ◌, neg_ℤ, unsigned_abs}
use Rattle.std.specs.Prelude.{◌<ℤ◌, ◌≤ℤ◌}
use Rattle.std.specs.Int.{int_div_euclid, int_rem_euclid}
use Rattle.std.proofs.Math.IntN.{*ℤ-negsuc}
use Rattle.std.proofs.lemmas.Bool.Decides.{Decides-int_eq}
use Rattle.std.proofs.lemmas.Int.{ints}
use borrow.Author.Differences.{up, down}
use Rattle.cell_spread.specs.Shares.{floor_ratio, is_whole_ratio}
use Rattle.cell_spread.specs.Inside.Remainders.{left_of}

-- ---- products

pub times-plus : (w s c : ℤ) → w *ℤ (s +ℤ c) ≡ (w *ℤ s) +ℤ (w *ℤ c)
times-plus w s c =
    let e : up (s +ℤ c) + (down s + down c) ≡ (up s + up c) + down (s +ℤ c) = omega (arith, ints) in
    omega (arith, ints, ap (λ (n : ℕ). up w * n) e, ap (λ (n : ℕ). down w * n) e)

pub plus-times : (a b c : ℤ) → (a +ℤ b) *ℤ c ≡ (a *ℤ c) +ℤ (b *ℤ c)
plus-times a b c =
    let e : up (a +ℤ b) + (down a + down b) ≡ (up a + up b) + down (a +ℤ b) = omega (arith, ints) in
    omega (arith, ints, ap (λ (n : ℕ). n * up c) e, ap (λ (n : ℕ). n * down c) e)

-- ---- division

-- what is left of a division by a number above 0
pub record Divided (m : ℤ) (k : ℕ) : Type 0 where
  pub left : ℕ
  pub split : (int_div_euclid m (pos k) *ℤ pos k) +ℤ pos left ≡ m
  pub less : left < k
  pub rest : int_rem_euclid m (pos k) ≡ pos left
  pub size : unsigned_abs (int_div_euclid m (pos k)) ≤ unsigned_abs m

quotient-small : (a k : ℕ) → 0 < k → a / k ≤ a
quotient-small a zero some = absurd (omega (arith, some))
quotient-small a (suc k) some =
    let e : suc k * (a / suc k) + a % suc k ≡ a = omega arith in
    let more : suc k * (a / suc k) ≡ a / suc k + k * (a / suc k) = omega arith in
    omega (arith, e, more)

pub divided : (m : ℤ) (k : ℕ) → 0 < k → Divided m k
divided (pos a) k some =
    record {
      left = a % k;
      split = omega (arith, ints);
      less = omega arith;
      rest = refl;
      size = quotient-small a k some;
    }
divided (negsuc a) k some =
    record {
      left = k - 1 - a % k;
      split = omega (arith, ints);
      less = omega arith;
      rest = refl;
      size = let s = quotient-small a k some in omega (arith, s);
    }

-- ---- signs

-- a number with the sign of d put on it
abbrev pub turned : ℤ → ℤ → ℤ
turned (pos d) n = n
turned (negsuc d) n = neg_ℤ n

pub turned-plus : (d m n : ℤ) → turned d (m +ℤ n) ≡ turned d m +ℤ turned d n
turned-plus (pos d) m n = refl
turned-plus (negsuc d) m n = omega (arith, ints)

pub turned-zero : (d : ℤ) → turned d (pos 0) ≡ pos 0
turned-zero (pos d) = refl
turned-zero (negsuc d) = refl

pub turned-own : (a d : ℤ) → turned d (a *ℤ d) ≡ a *ℤ pos (unsigned_abs d)
turned-own a (pos d) = refl
turned-own a (negsuc d) = let e = *ℤ-negsuc a d in omega (arith, ints, e)

pub some-size : (d : ℤ) → d ≢ pos 0 → 0 < unsigned_abs d
some-size (pos zero) some = absurd (some refl)
some-size (pos (suc d)) some = omega arith
some-size (negsuc d) some = omega arith

-- ---- ratios

-- a ratio rounded down, and what is left of it
pub record IsFloor (n d : ℤ) : Type 0 where
  pub split : (floor_ratio n d *ℤ pos (unsigned_abs d)) +ℤ pos (left_of n d) ≡ turned d n
  pub less : left_of n d < unsigned_abs d
  pub back : turned d (floor_ratio n d *ℤ d) ≡ floor_ratio n d *ℤ pos (unsigned_abs d)

abs-neg : (r : ℕ) → unsigned_abs (neg_ℤ (pos r)) ≡ r
abs-neg zero = refl
abs-neg (suc r) = refl

pub is-floor : (n d : ℤ) → d ≢ pos 0 → IsFloor n d
is-floor n (pos d) some =
    let by = divided n d (some-size (pos d) some) in
    let split = by.split in
    let gap : n -ℤ (int_div_euclid n (pos d) *ℤ pos d) ≡ pos by.left = omega (arith, ints, split) in
    let own : left_of n (pos d) ≡ by.left = ap unsigned_abs gap in
    record {
      split = ap (λ (r : ℕ). (int_div_euclid n (pos d) *ℤ pos d) +ℤ pos r) own ∙ split;
      less = let l = by.less in omega (arith, l, own);
      back = refl;
    }
is-floor n (negsuc d) some =
    let by = divided (neg_ℤ n) (suc d) (omega arith) in
    let split = by.split in
    let turn = *ℤ-negsuc (int_div_euclid (neg_ℤ n) (pos (suc d))) d in
    let gap : n -ℤ (int_div_euclid (neg_ℤ n) (pos (suc d)) *ℤ negsuc d) ≡ neg_ℤ (pos by.left) = omega (arith, ints, split, turn) in
    let own : left_of n (negsuc d) ≡ by.left = ap unsigned_abs gap ∙ abs-neg by.left in
    record {
      split = ap (λ (r : ℕ). (int_div_euclid (neg_ℤ n) (pos (suc d)) *ℤ pos (suc d)) +ℤ pos r) own ∙ split;
      less = let l = by.less in omega (arith, l, own);
      back = omega (arith, ints, turn);
    }

-- it is whole where nothing is left
no-gap : (m n : ℤ) → unsigned_abs (n -ℤ m) ≡ 0 → m ≡ n
no-gap m n none = omega (arith, ints, none)

pub whole-none : (n d : ℤ) → is_whole_ratio n d ≡ true → left_of n d ≡ 0
whole-none n d on =
    let same = (Decides-int_eq (floor_ratio n d *ℤ d) n).0 on in
    let gap : n -ℤ (floor_ratio n d *ℤ d) ≡ pos 0 = omega (arith, ints, same) in
    ap unsigned_abs gap

pub none-whole : (n d : ℤ) → left_of n d ≡ 0 → is_whole_ratio n d ≡ true
none-whole n d none = (Decides-int_eq (floor_ratio n d *ℤ d) n).1 (no-gap (floor_ratio n d *ℤ d) n none)

-- ---- as words

pub euclid-left : (m d : ℤ) → pos 0 <ℤ d → (int_div_euclid m d *ℤ d) +ℤ pos (unsigned_abs (int_rem_euclid m d)) ≡ m
euclid-left m (pos k) some =
    let by = divided m k (omega (arith, ints, some)) in
    let split = by.split in
    let rest = ap unsigned_abs by.rest in
    ap (λ (r : ℕ). (int_div_euclid m (pos k) *ℤ pos k) +ℤ pos r) rest ∙ split
euclid-left m (negsuc k) some = absurd (omega (arith, ints, some))

-- what is left, where a ratio is rounded down
left-from : (n d q : ℤ) (r : ℕ) → d ≢ pos 0 → q ≡ floor_ratio n d → (q *ℤ pos (unsigned_abs d)) +ℤ pos r ≡ turned d n → r ≡ left_of n d
left-from n d q r some own split =
    let whole = (is-floor n d some).split in
    let same : q *ℤ pos (unsigned_abs d) ≡ floor_ratio n d *ℤ pos (unsigned_abs d) = ap (λ (z : ℤ). z *ℤ pos (unsigned_abs d)) own in
    omega (arith, ints, split, whole, same)

pub left-turned : (n d q k m : ℤ) (r : ℕ) → (q *ℤ k) +ℤ pos r ≡ m → k ≡ neg_ℤ d → m ≡ neg_ℤ n → d <ℤ pos 0 → q ≡ floor_ratio n d → r ≡ left_of n d
left-turned n (pos d) q k m r split divisor number low own = absurd (omega (arith, ints, low))
left-turned n (negsuc d) q k m r split divisor number low own =
    left-from n (negsuc d) q r (λ e. (let clash : negsuc d ≡ pos 0 = e in cc)) own
    (ap (λ (z : ℤ). (q *ℤ z) +ℤ pos r) (sym divisor) ∙ split ∙ number)

pub left-plain : (n d q k m : ℤ) (r : ℕ) → (q *ℤ k) +ℤ pos r ≡ m → k ≡ d → m ≡ n → pos 0 ≤ℤ d → d ≢ pos 0 → q ≡ floor_ratio n d → r ≡ left_of n d
left-plain n (pos d) q k m r split divisor number high some own =
    left-from n (pos d) q r some own (ap (λ (z : ℤ). (q *ℤ z) +ℤ pos r) (sym divisor) ∙ split ∙ number)
left-plain n (negsuc d) q k m r split divisor number high some own = absurd (omega (arith, ints, high))

pub less-turned : (d k : ℤ) (r : ℕ) → pos r <ℤ k → k ≡ neg_ℤ d → d <ℤ pos 0 → r < unsigned_abs d
less-turned (pos d) k r less divisor low = absurd (omega (arith, ints, low))
less-turned (negsuc d) k r less divisor low = omega (arith, ints, less, divisor)
