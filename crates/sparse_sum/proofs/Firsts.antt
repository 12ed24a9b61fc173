-- The first number that counts, where what a number counts is a product of two: by its row, and by its place in the row.
use Rattle.std.proofs.Common.{◌≡◌, ◌≢◌, ◌∙◌, refl, ap, arith, ℕ, ◌+◌, ◌-◌, ◌*◌, ◌/◌, ◌%◌, ◌<◌, ◌≤◌, zero, suc, inl, inr, ℤ, pos, negsuc, ◌*ℤ◌, unsigned_abs}
use Rattle.std.proofs.Math.IntN.{*ℤ-zero, zero-*ℤ}
use Rattle.std.proofs.Math.Nat.{mul-le-mul}
use Rattle.std.proofs.lemmas.Bool.{cases_lt, cases_eq}
use Rattle.std.proofs.lemmas.Int.{ints, unsigned_abs-mul}
use Rattle.std.proofs.lemmas.Nat.{mul-add-lt, div-mul-add, mod-mul-add, div_below, mod_below, div-add-mod', le-div}
use Rattle.sparse_sum.specs.Inside.First.{IsClear, IsFirst}

pub size_positive : (z : ℤ) → z ≢ pos 0 → 1 ≤ unsigned_abs z
size_positive (pos zero) differs = absurd (differs refl)
size_positive (pos (suc m)) differs = omega (arith, ints)
size_positive (negsuc m) differs = omega (arith, ints)

pub product-counts : (a b : ℤ) → a ≢ pos 0 → b ≢ pos 0 → a *ℤ b ≢ pos 0
product-counts a b one two none =
    let size = mul-le-mul (size_positive a one) (size_positive b two) in
    let e : unsigned_abs (a *ℤ b) ≡ 0 = ap unsigned_abs none in
    omega (arith, size, e, unsigned_abs-mul a b)

-- what a number counts, by rows of so many
abbrev pub by_rows : (ℕ → ℤ) → (ℕ → ℤ) → ℕ → ℕ → ℤ
by_rows c v worth n = c (n / worth) *ℤ v (n % worth)

module _ (c v : ℕ → ℤ) (size worth : ℕ) (some : 0 < worth) where
  at : (a q : ℕ) → q < worth → by_rows c v worth (a * worth + q) ≡ c a *ℤ v q
  at a q less = rw (div-mul-add a worth q less, mod-mul-add a worth q less) refl

  none-row : (n : ℕ) → c (n / worth) ≡ pos 0 → by_rows c v worth n ≡ pos 0
  none-row n none = ap (λ z. z *ℤ v (n % worth)) none ∙ zero-*ℤ (v (n % worth))

  none-place : (n : ℕ) → v (n % worth) ≡ pos 0 → by_rows c v worth n ≡ pos 0
  none-place n none = ap (λ z. c (n / worth) *ℤ z) none ∙ *ℤ-zero (c (n / worth))

  -- nothing of the row of a number counts from it on
  abbrev pub IsRowClear : ℕ → Type 0
  IsRowClear from = (n : ℕ) → from ≤ n → n / worth ≡ from / worth → by_rows c v worth n ≡ pos 0

  pub row-none : (from : ℕ) → c (from / worth) ≡ pos 0 → IsRowClear from
  row-none from none n low same = none-row n (ap c same ∙ none)

  pub row-past : (from : ℕ) → IsClear v (from % worth) worth → IsRowClear from
  row-past from clear n low same =
      let here = div-add-mod' n worth in
      let begin = div-add-mod' from worth in
      let e : n / worth * worth ≡ from / worth * worth = ap (λ k. k * worth) same in
      none-place n (clear (n % worth) (omega (arith, low, here, begin, e)) (mod_below n worth some))

  -- so nothing before a later row, where no row between counts
  pub rows-clear : (from p : ℕ) → IsRowClear from → IsClear c (from / worth + 1) p → IsClear (by_rows c v worth) from (p * worth)
  rows-clear from p row clear n low less =
      let below = div_below n worth p some less in
      let begin = div-add-mod' from worth in
      let above = le-div (from / worth) n worth some (omega (arith, begin, low)) in
      elim (cases_eq (n / worth) (from / worth)) [
        | inl same ↦ row n low same
        | inr apart ↦ none-row n (clear (n / worth) (omega (arith, above, apart)) below)
      ]

  -- nothing counts where nothing in a row does
  pub all-clear : IsClear v 0 worth → (from end : ℕ) → IsClear (by_rows c v worth) from end
  all-clear clear from end n low less = none-place n (clear (n % worth) (omega arith) (mod_below n worth some))

  -- the first of a row, where nothing counts before
  pub first-in : (from p s : ℕ) (k : ℤ) (found : ℕ × ℤ) → c p ≡ k → k ≢ pos 0 → p < size → from ≤ p * worth + s → IsClear (by_rows c v worth) from (p * worth + s)
      → IsFirst v worth s found → IsFirst (by_rows c v worth) (size * worth) from (p * worth + found.0, k *ℤ found.1)
  first-in from p s k found own counts low begin clear first =
      let least = first.least in
      record {
        least = omega (arith, least, begin);
        within = let w = mul-add-lt p worth found.0 size low first.within in omega (arith, w);
        own = at p found.0 first.within ∙ ap (λ z. z *ℤ v found.0) own ∙ ap (λ z. k *ℤ z) first.own;
        counts = product-counts k found.1 counts first.counts;
        clear = λ n from_n n_less. (elim (cases_lt n (p * worth + s)) [
          | inl before ↦ clear n from_n before
          | inr after ↦ (let here = inside n after n_less in here)
        ]);
      }
    where
      inside : (n : ℕ) → p * worth + s ≤ n → n < p * worth + found.0 → by_rows c v worth n ≡ pos 0
      inside n after less =
          let place : ℕ = n - p * worth in
          let e : n ≡ p * worth + place = omega (arith, after) in
          let short : place < worth = omega (arith, less, first.within, e) in
          let none = first.clear place (omega (arith, after, e)) (omega (arith, less, e)) in
          ap (by_rows c v worth) e ∙ at p place short ∙ ap (λ z. c p *ℤ z) none ∙ *ℤ-zero (c p)
