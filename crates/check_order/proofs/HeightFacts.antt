-- Heights are found position by position.
use Rattle.std.proofs.Common.{◌≡◌, refl, sym, ap, ◌∙◌, arith, ℕ, zero, suc, ◌+◌, ◌*◌, ◌<◌, ◌≤◌, Bool, Option, Some, None, if◌then◌else◌, List, [], ◌∷◌, length, get_or, take, All, inl, inr}
use Rattle.std.specs.List.{range_with_len}
use Rattle.std.proofs.lemmas.Bool.{cases_lt, lt-ltb, le-ltb}
use Rattle.std.proofs.Math.Nat.{mul_assoc, mul-pos}
use Rattle.std.proofs.lemmas.Nat.{mul-le}
use Rattle.std.proofs.lemmas.List.Elements.{All-map, All-tail}
use Rattle.std.proofs.lemmas.List.FromFn.{get_or-map-range_with_len}
use Rattle.cube_space.specs.Radix.{product}
use Rattle.rule_model.specs.BoundModel.{BoundModel}
use Rattle.rule_model.specs.Order.{most_height, most_positions, position_size, position_sizes}
use Rattle.check_order.specs.Heights.{first_too_high}
use Rattle.check_order.specs.Inside.Heights.{high_from}

pub product-next : (sizes : List ℕ) (n : ℕ) → n < length sizes → product (take (n + 1) sizes) ≡ product (take n sizes) * get_or sizes n 0
product-next [] n low = absurd (omega arith)
product-next (s ∷ ss) zero low = let e : s * 1 ≡ 1 * s = omega arith in e
product-next (s ∷ ss) (suc n) low =
    let more : suc n + 1 ≡ suc (n + 1) = omega arith in
    ap (λ k. product (take k (s ∷ ss))) more ∙ ap (λ p. s * p) (product-next ss n (omega arith)) ∙ sym (mul_assoc s (product (take n ss)) (get_or ss n 0))

module _ (sizes : List ℕ) where
  abbrev height_to : ℕ → ℕ
  height_to n = product (take (n + 1) sizes)

  abbrev test : Bool → ℕ → Option ℕ → Option ℕ
  test t height rest = if t then Some height else rest

  pub high-here : (n k j : ℕ) → k ≡ suc j → most_height < height_to n → Some (height_to n) ≡ high_from sizes n k
  high-here n k j e high =
      sym (ap (high_from sizes n) e ∙ ap (λ t. test t (height_to n) (high_from sizes (n + 1) j)) (lt-ltb most_height (height_to n) high))

  pub high-past : (n k j : ℕ) → k ≡ suc j → height_to n ≤ most_height → high_from sizes (n + 1) j ≡ high_from sizes n k
  high-past n k j e low =
      sym (ap (high_from sizes n) e ∙ ap (λ t. test t (height_to n) (high_from sizes (n + 1) j)) (le-ltb most_height (height_to n) low))

  -- where none is too high, each is low
  pub none-high : (a k n : ℕ) → high_from sizes a k ≡ None → a ≤ n → n < a + k → height_to n ≤ most_height
  none-high a zero n none from low = absurd (omega (arith, from, low))
  none-high a (suc k) n none from low = elim (cases_lt most_height (height_to a)) [
    | inl high ↦ absurd (let some : Some (height_to a) ≡ high_from sizes a (suc k) = high-here a (suc k) k refl high in let wrong : Some (height_to a) ≡ None = some ∙ none in cc)
    | inr fits ↦ elim (cases_lt a n) [
      | inl after ↦ none-high (a + 1) k n (high-past a (suc k) k refl fits ∙ none) (omega (arith, after)) (omega (arith, low))
      | inr before ↦ let same : height_to a ≡ height_to n = ap height_to (let e : a ≡ n = omega (arith, before, from) in e) in omega (arith, same, fits)
    ]
  ]

pub size-at_place : (m : BoundModel) (n : ℕ) → n < most_positions → get_or (position_sizes m) n 0 ≡ position_size m n
size-at_place m n low = get_or-map-range_with_len (position_size m) 0 most_positions n n 0 low (omega arith)

module _ (m : BoundModel) where
  -- the height up to a position
  pub height-next : (n height size : ℕ) → n < most_positions → height ≡ product (take n (position_sizes m)) → size ≡ position_size m n → height * size ≡ product (take (n + 1) (position_sizes m))
  height-next n height size low so_far here =
      ap (λ h. h * size) so_far ∙ ap (λ s. product (take n (position_sizes m)) * s) (here ∙ sym (size-at_place m n low)) ∙ sym (product-next (position_sizes m) n (omega (arith, low)))

  pub none-low : first_too_high m ≡ None → product (position_sizes m) ≤ most_height
  unfolding first_too_high
  none-low none = none-high (position_sizes m) 0 most_positions 7 none (omega arith) (omega arith)

-- no height is greater than the whole, since no size is 0
record IsPart (sizes : List ℕ) (n : ℕ) : Type 0 where
  within : product (take n sizes) ≤ product sizes
  some : 0 < product sizes

product-part : (sizes : List ℕ) (n : ℕ) → All (λ size. 0 < size) sizes → IsPart sizes n
product-part [] zero some = record { within = omega arith; some = omega arith }
product-part [] (suc n) some = record { within = omega arith; some = omega arith }
product-part (s ∷ ss) zero some =
    let rest = product-part ss 0 (All-tail (λ size. 0 < size) s ss some) in
    let more : 0 < s * product ss = mul-pos (some 0 0 (omega arith)) rest.some in
    record { within = omega (arith, more); some = more }
product-part (s ∷ ss) (suc n) some =
    let rest = product-part ss n (All-tail (λ size. 0 < size) s ss some) in
    record {
      within = mul-le s (product (take n ss)) s (product ss) (omega arith) rest.within;
      some = mul-pos (some 0 0 (omega arith)) rest.some;
    }

none-from : (sizes : List ℕ) (a k : ℕ) → ((n : ℕ) → product (take (n + 1) sizes) ≤ most_height) → high_from sizes a k ≡ None
none-from sizes a zero low = refl
none-from sizes a (suc k) low = sym (high-past sizes a (suc k) k refl (low a)) ∙ none-from sizes (a + 1) k low

sizes-some : (m : BoundModel) → All (λ size. 0 < size) (position_sizes m)
unfolding position_size
sizes-some m = All-map (λ size. 0 < size) (position_size m) (range_with_len 0 most_positions) (λ k d low. omega arith)

pub low-none : (m : BoundModel) → product (position_sizes m) ≤ most_height → first_too_high m ≡ None
unfolding first_too_high
low-none m low = none-from (position_sizes m) 0 most_positions (λ n. let part = product-part (position_sizes m) (n + 1) (sizes-some m) in omega (arith, part.within, low))
