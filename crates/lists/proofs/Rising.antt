-- Rising lists of numbers: one with the same numbers is the same.
use Rattle.std.proofs.Common.{◌≡◌, ◌<◌, ◌≤◌, ◌+◌, ℕ, zero, suc, Bool, true, false, ◌||◌, cond, List, [], ◌∷◌, filter, length, get_or, inl, inr, ◌⊎◌, refl, sym, ap, ◌∙◌, subst, arith, eqb, eq-eqb, IsPermutation}
use Rattle.std.proofs.lemmas.Bool.{ne_eqb, cases_lt}
use Rattle.std.proofs.lemmas.Bool.Decides.{eqb_tells}
use Rattle.std.proofs.lemmas.List.Sorted.{list_any-IsPermutation}
use Rattle.std.specs.Prelude.{⊤}
use Rattle.std.specs.List.{list_any, range_with_len, dedup, dedup_from}
use Rattle.std.specs.List.Sorted.{IsStrictlyIncreasing}

-- whether a number is among these
abbrev pub among : ℕ → List ℕ → Bool
among n xs = list_any (λ x. eqb x n) xs

-- each is at least `least` and above the one before
abbrev pub RisesFrom : ℕ → List ℕ → Type 0
RisesFrom least [] = ⊤
RisesFrom least (x ∷ xs) = (least ≤ x) × RisesFrom (x + 1) xs

same_number : (n : ℕ) → eqb n n ≡ true
same_number n = eq-eqb n n refl

rises_sooner : (least less : ℕ) (xs : List ℕ) → less ≤ least → RisesFrom least xs → RisesFrom less xs
rises_sooner least less [] low rises = tt
rises_sooner least less (x ∷ xs) low rises = (omega (arith, rises.0, low), rises.1)

none_below : (least n : ℕ) (xs : List ℕ) → RisesFrom least xs → n < least → among n xs ≡ false
none_below least n [] rises low = refl
none_below least n (x ∷ xs) rises low =
    rw (ne_eqb x n (λ same. omega (arith, same, rises.0, low))) (none_below (x + 1) n xs rises.1 (omega (arith, rises.0, low)))

pub rising_same : (least : ℕ) (xs ys : List ℕ) → RisesFrom least xs → RisesFrom least ys → ((n : ℕ) → among n xs ≡ among n ys) → xs ≡ ys
rising_same least [] [] rx ry same = refl
rising_same least [] (y ∷ ys) rx ry same =
    let here : among y (y ∷ ys) ≡ true = rw (same_number y) refl in
    absurd (let e : false ≡ true = same y ∙ here in cc e)
rising_same least (x ∷ xs) [] rx ry same =
    let here : among x (x ∷ xs) ≡ true = rw (same_number x) refl in
    absurd (let e : true ≡ false = sym here ∙ same x in cc e)
rising_same least (x ∷ xs) (y ∷ ys) rx ry same = by (λ up alike. rising_same (x + 1) xs ys rx.1 up alike) (eqb_tells x y)
  where
    here_x : among x (x ∷ xs) ≡ true
    here_x = rw (same_number x) refl

    here_y : among y (y ∷ ys) ≡ true
    here_y = rw (same_number y) refl

    not_less : x < y → ⊥
    not_less low =
        let none : among x (y ∷ ys) ≡ false = none_below y x (y ∷ ys) (omega arith, ry.1) low in
        let e : true ≡ false = sym here_x ∙ same x ∙ none in cc e

    not_more : y < x → ⊥
    not_more low =
        let none : among y (x ∷ xs) ≡ false = none_below x y (x ∷ xs) (omega arith, rx.1) low in
        let e : true ≡ false = sym here_y ∙ sym (same y) ∙ none in cc e

    rest : (n : ℕ) → x ≡ y → (n < x + 1) ⊎ (x + 1 ≤ n) → among n xs ≡ among n ys
    rest n is (inl low) = none_below (x + 1) n xs rx.1 low ∙ sym (none_below (y + 1) n ys ry.1 (omega (arith, is, low)))
    rest n is (inr high) =
        let left : among n (x ∷ xs) ≡ among n xs = rw (ne_eqb x n (λ e. omega (arith, e, high))) refl in
        let right : among n (y ∷ ys) ≡ among n ys = rw (ne_eqb y n (λ e. omega (arith, e, is, high))) refl in
        sym left ∙ same n ∙ right

    by : (RisesFrom (x + 1) ys → ((n : ℕ) → among n xs ≡ among n ys) → xs ≡ ys) → ((eqb x y ≡ true) × (x ≡ y)) ⊎ ((eqb x y ≡ false) × (x ≡ y → ⊥)) → x ∷ xs ≡ y ∷ ys
    by later (inl e) =
        let tails : xs ≡ ys = later (subst (λ n. RisesFrom (n + 1) ys) (sym e.1) ry.1) (λ n. rest n e.1 (cases_lt n (x + 1))) in
        let is = e.1 in cc
    by later (inr e) = absurd (e.1 (omega (arith, not_less, not_more)))

-- a list that increases rises
pub rises : (least : ℕ) (xs : List ℕ) → IsStrictlyIncreasing xs → (0 < length xs → least ≤ get_or xs 0 0) → RisesFrom least xs
rises least [] up first = tt
rises least (x ∷ []) up first = (first (omega arith), tt)
rises least (x ∷ y ∷ xs) up first =
    (first (omega arith), rises (x + 1) (y ∷ xs) (λ k low. let e : suc k + 1 ≡ suc (k + 1) = omega arith in subst (λ n. get_or (x ∷ y ∷ xs) (suc k) 0 < get_or (x ∷ y ∷ xs) n 0) e (up (suc k) (omega arith))) (λ _. let step : x < y = up 0 (omega arith) in omega (arith, step)))

-- what is kept of a range rises
pub kept_rises : (p : ℕ → Bool) (from count : ℕ) → RisesFrom from (filter p (range_with_len from count))
kept_rises p from zero = tt
kept_rises p from (suc count) = by (p from) (kept_rises p (from + 1) count)
  where
    by : (b : Bool) → RisesFrom (from + 1) (filter p (range_with_len (from + 1) count)) → RisesFrom from (cond b (from ∷ filter p (range_with_len (from + 1) count)) (filter p (range_with_len (from + 1) count)))
    by true later = (omega arith, later)
    by false later = rises_sooner (from + 1) from (filter p (range_with_len (from + 1) count)) (omega arith) later

-- a number of the range is kept where it passes
pub among_kept : (p : ℕ → Bool) (from count n : ℕ) → from ≤ n → n < from + count → among n (filter p (range_with_len from count)) ≡ p n
among_kept p from zero n low high = absurd (omega arith)
among_kept p from (suc count) n low high = by (λ above below. among_kept p (from + 1) count n above below) (p from) (eqb_tells from n) refl
  where
    rest : List ℕ
    rest = filter p (range_with_len (from + 1) count)

    above : RisesFrom (from + 1) rest
    above = kept_rises p (from + 1) count

    by : (from + 1 ≤ n → n < from + 1 + count → among n rest ≡ p n) → (b : Bool) → ((eqb from n ≡ true) × (from ≡ n)) ⊎ ((eqb from n ≡ false) × (from ≡ n → ⊥)) → p from ≡ b → among n (cond b (from ∷ rest) rest) ≡ p n
    by later true (inl e) is = rw e.0 (sym is ∙ ap p e.1)
    by later false (inl e) is = none_below (from + 1) n rest above (omega (arith, e.1)) ∙ sym is ∙ ap p e.1
    by later true (inr e) is = rw e.0 (later (omega (arith, e.1, low)) (omega (arith, high)))
    by later false (inr e) is = later (omega (arith, e.1, low)) (omega (arith, high))

-- a number past the range isn't
pub past_kept : (p : ℕ → Bool) (from count n : ℕ) → from + count ≤ n → among n (filter p (range_with_len from count)) ≡ false
past_kept p from zero n past = refl
past_kept p from (suc count) n past = by (p from) (past_kept p (from + 1) count n (omega (arith, past)))
  where
    by : (b : Bool) → among n (filter p (range_with_len (from + 1) count)) ≡ false → among n (cond b (from ∷ filter p (range_with_len (from + 1) count)) (filter p (range_with_len (from + 1) count))) ≡ false
    by true later = rw (ne_eqb from n (λ e. omega (arith, e, past))) later
    by false later = later

-- repeats that go take no number with them
dedup_keeps : (n k : ℕ) (xs : List ℕ) → among n (dedup_from eqb k xs) ≡ among n (k ∷ xs)
dedup_keeps n k [] = refl
dedup_keeps n k (x ∷ xs) = by (dedup_keeps n k xs) (dedup_keeps n x xs) (eqb_tells x k)
  where
    twice : (b c : Bool) → (b || c) ≡ (b || (b || c))
    twice true c = refl
    twice false c = refl

    by : among n (dedup_from eqb k xs) ≡ among n (k ∷ xs) → among n (dedup_from eqb x xs) ≡ among n (x ∷ xs) → ((eqb x k ≡ true) × (x ≡ k)) ⊎ ((eqb x k ≡ false) × (x ≡ k → ⊥)) → among n (cond (eqb x k) (dedup_from eqb k xs) (k ∷ dedup_from eqb x xs)) ≡ among n (k ∷ x ∷ xs)
    by same next (inl e) = rw e.0 (same ∙ subst (λ y. among n (k ∷ xs) ≡ among n (k ∷ y ∷ xs)) (sym e.1) (twice (eqb k n) (among n xs)))
    by same next (inr e) = rw e.0 (ap (λ b. eqb k n || b) next)

pub among_dedup : (n : ℕ) (xs : List ℕ) → among n (dedup eqb xs) ≡ among n xs
among_dedup n [] = refl
among_dedup n (x ∷ xs) = dedup_keeps n x xs

pub among_moved : (n : ℕ) (xs ys : List ℕ) → IsPermutation xs ys → among n xs ≡ among n ys
among_moved n xs ys moved = list_any-IsPermutation (λ x. eqb x n) xs ys moved
