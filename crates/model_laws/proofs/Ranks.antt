-- The rank of a cell is its numbers at the positions of the declared order, read as one.
use Rattle.std.proofs.Common.{◌≡◌, refl, subst, arith, ℕ, zero, suc, ◌+◌, ◌<◌, ◌≤◌, inl, inr, ◌⊎◌, true, List, [], ◌∷◌, length, map, get_or}
use Rattle.std.specs.List.{range_with_len}
use Rattle.std.proofs.lemmas.Bool.{and_from, lt-ltb, cases_lt}
use Rattle.std.proofs.lemmas.List.FromFn.{get_or-map-range_with_len, length-map-range_with_len}
use Rattle.cube_space.specs.Radix.{are_digits}
use Rattle.cube_space.specs.Cells.{IsCell}
use Rattle.cube_space.proofs.Radix.{number-at_most, number-smaller}
use Rattle.rule_laws.specs.OrderByPlace.{IsRankedBy}
use Rattle.rule_model.specs.BoundModel.{BoundModel}
use Rattle.rule_model.specs.Order.{most_positions, number_at, greatest, position_size, position_sizes, numbers_of, rank, cell_level, level_count}
use Rattle.rule_model.specs.System.{system_of, positions_of}

greatest-most : (xs : List ℕ) (k d : ℕ) → k < length xs → get_or xs k d ≤ greatest xs
greatest-most [] k d less = absurd (omega arith)
greatest-most (x ∷ xs) zero d less = omega arith
greatest-most (x ∷ xs) (suc k) d less = let rest = greatest-most xs k d (omega arith) in omega arith

-- what each of so many has is at most the greatest
at_most-greatest : (f : ℕ → ℕ) (n c : ℕ) → c < n → f c ≤ greatest (map f (range_with_len 0 n))
at_most-greatest f n c less =
    let here : get_or (map f (range_with_len 0 n)) c 0 ≡ f c = get_or-map-range_with_len f 0 n c c 0 less (omega arith) in
    omega (arith, here, greatest-most (map f (range_with_len 0 n)) c 0 (omega (arith, less, length-map-range_with_len f 0 n)))

digits-by : (f g : ℕ → ℕ) (a n : ℕ) → ((p : ℕ) → g p < f p) → are_digits (map f (range_with_len a n)) (map g (range_with_len a n)) ≡ true
digits-by f g a zero below = refl
digits-by f g a (suc n) below = and_from _ _ (lt-ltb (g a) (f a) (below a)) (digits-by f g (a + 1) n below)

-- a number smaller behind equal ones
record IsSmallerAt (f g : ℕ → ℕ) (place : ℕ) : Type 0 where
  here : f place < g place
  before : (p : ℕ) → p < place → f p ≡ g p

-- where no number is greater behind equal ones, all are equal, or the first that differs is smaller
first-smaller : (f g : ℕ → ℕ) → ((place : ℕ) → ((p : ℕ) → p < place → f p ≡ g p) → f place ≤ g place) → (n : ℕ) → ((p : ℕ) → p < n → f p ≡ g p) ⊎ ((place : ℕ) × (place < n) × IsSmallerAt f g place)
first-smaller f g least zero = inl (λ p less. absurd (omega (arith, less)))
first-smaller f g least (suc n) = from (first-smaller f g least n)
  where
    next : ((p : ℕ) → p < n → f p ≡ g p) → (f n < g n) ⊎ (g n ≤ f n) → ((p : ℕ) → p < suc n → f p ≡ g p) ⊎ ((place : ℕ) × (place < suc n) × IsSmallerAt f g place)
    next same (inl less) = inr (n, omega arith, record { here = less; before = same })
    next same (inr most) =
        let equal : f n ≡ g n = omega (arith, most, least n same) in
        inl (λ p less. elim (cases_lt p n) [
          | inl before ↦ same p before
          | inr behind ↦ subst (λ (k : ℕ). f k ≡ g k) (let e : n ≡ p = omega (arith, less, behind) in e) equal
        ])

    from : ((p : ℕ) → p < n → f p ≡ g p) ⊎ ((place : ℕ) × (place < n) × IsSmallerAt f g place) → ((p : ℕ) → p < suc n → f p ≡ g p) ⊎ ((place : ℕ) × (place < suc n) × IsSmallerAt f g place)
    from (inl same) = next same (cases_lt (f n) (g n))
    from (inr (place, within, smaller)) = inr (place, omega (arith, within), smaller)

module _ (m : BoundModel) where
  pub number-below_size : (c place : ℕ) → IsCell m.space c → number_at m place c < position_size m place
  unfolding position_size
  number-below_size c place cell = omega (arith, at_most-greatest (number_at m place) _ c cell)

  pub digits-of : (c : ℕ) → IsCell m.space c → are_digits (position_sizes m) (numbers_of m c) ≡ true
  digits-of c cell = digits-by (position_size m) (λ place. number_at m place c) 0 most_positions (λ place. number-below_size c place cell)

  pub number-of : (c place : ℕ) → place < most_positions → get_or (numbers_of m c) place 0 ≡ number_at m place c
  number-of c place less = get_or-map-range_with_len (λ place. number_at m place c) 0 most_positions place place 0 less (omega arith)

  pub positions-many : length (position_sizes m) ≡ most_positions
  positions-many = length-map-range_with_len (position_size m) 0 most_positions

  -- a cell that has no greater number ranks no higher
  pub rank-at_most : (x c : ℕ) → IsCell m.space x → IsCell m.space c → ((place : ℕ) → place < most_positions → number_at m place x ≤ number_at m place c) → rank m x ≤ rank m c
  unfolding rank
  rank-at_most x c cell_x cell_c least =
      number-at_most (position_sizes m) (numbers_of m x) (numbers_of m c) (digits-of x cell_x) (digits-of c cell_c)
      (λ place less.
      let within : place < most_positions = omega (arith, less, positions-many) in
      omega (arith, number-of x place within, number-of c place within, least place within))

  -- one with a smaller number at a position, and none greater before, ranks lower
  pub rank-smaller : (x c place : ℕ) → IsCell m.space x → IsCell m.space c → place < most_positions → number_at m place x < number_at m place c
      → ((p : ℕ) → p < place → number_at m p x ≤ number_at m p c) → rank m x < rank m c
  unfolding rank
  rank-smaller x c place cell_x cell_c within here before =
      number-smaller (position_sizes m) (numbers_of m x) (numbers_of m c) place (digits-of x cell_x) (digits-of c cell_c) (omega (arith, within, positions-many))
      (λ p less.
      let low : p < most_positions = omega (arith, less, within) in
      omega (arith, number-of x p low, number-of c p low, before p less))
      (omega (arith, number-of x place within, number-of c place within, here))

  -- a cell that has no greater number behind equal ones ranks no higher
  pub rank-behind_equal : (x c : ℕ) → IsCell m.space x → IsCell m.space c
      → ((place : ℕ) → ((p : ℕ) → p < place → number_at m p x ≡ number_at m p c) → number_at m place x ≤ number_at m place c) → rank m x ≤ rank m c
  rank-behind_equal x c cell_x cell_c least = by (first-smaller (λ p. number_at m p x) (λ p. number_at m p c) least most_positions)
    where
      by : ((p : ℕ) → p < most_positions → number_at m p x ≡ number_at m p c) ⊎ ((place : ℕ) × (place < most_positions) × IsSmallerAt (λ p. number_at m p x) (λ p. number_at m p c) place) → rank m x ≤ rank m c
      by (inl same) = rank-at_most x c cell_x cell_c (λ p within. omega (arith, same p within))
      by (inr (place, within, smaller)) =
          let lower = rank-smaller x c place cell_x cell_c within smaller.here (λ p less. omega (arith, smaller.before p less)) in
          omega (arith, lower)

  pub ranked : IsRankedBy (system_of m) (positions_of m)
  unfolding system_of positions_of level_count
  ranked = record {
    smaller = λ x c q cell_x cell_c within here before. rank-smaller x c q cell_x cell_c within here before;
    at_most = λ x c cell_x cell_c least. rank-at_most x c cell_x cell_c least;
    level_within = λ c cell. omega (arith, at_most-greatest (cell_level m.space) _ c cell);
  }
