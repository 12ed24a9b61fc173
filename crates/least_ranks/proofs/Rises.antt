-- Lists of numbers that rise, told from their ends.
use Rattle.std.proofs.Common.{◌≡◌, ◌⊎◌, inl, inr, ℕ, ◌+◌, ◌-◌, ◌<◌, ◌≤◌, List, [], ◌∷◌, ◌++◌, All, length}
use Rattle.std.proofs.Common.{take, get_or, refl, sym, ◌∙◌, arith, length-append}
use Rattle.std.proofs.lemmas.Bool.{cases_lt}
use Rattle.std.proofs.lemmas.List.{get_or_append_left, get_or_push, get_or_default, length_push, take_at, take_more}
use Rattle.std.proofs.lemmas.List.{take_all, same_from_push}
use Rattle.std.proofs.lemmas.List.Elements.{All-push, All-weaker}
use Rattle.least_ranks.specs.Inside.Trails.{IsRising, EndsWith}

pub IsRising-none : IsRising []
IsRising-none = record { rises = λ i j less within. absurd (omega arith) }

-- a place of a list with one more member is one of the list's, or the last
abbrev pub IsPlaceOf : List ℕ → ℕ → ℕ → Type 0
IsPlaceOf xs x k = ((k < length xs) × (get_or (xs ++ x ∷ []) k 0 ≡ get_or xs k 0))
    ⊎ ((k ≡ length xs) × (get_or (xs ++ x ∷ []) k 0 ≡ x))

pub get_or-push_cases : (xs : List ℕ) (x k : ℕ) → k < length (xs ++ x ∷ []) → IsPlaceOf xs x k
get_or-push_cases xs x k within = by (cases_lt k (length xs))
  where
    by : (k < length xs) ⊎ (length xs ≤ k) → IsPlaceOf xs x k
    by (inl there) = inl (there, get_or_append_left xs (x ∷ []) 0 k there)
    by (inr past) =
        let at : k ≡ length xs = omega (arith, length_push xs x, within) in
        inr (at, get_or_push xs x 0 k (sym at))

pub IsRising-push : (xs : List ℕ) (x : ℕ) → IsRising xs → All (λ y. y < x) xs → IsRising (xs ++ x ∷ [])
IsRising-push xs x up below = record { rises = λ i j less within. by i j less (get_or-push_cases xs x j within) }
  where
    by : (i j : ℕ) → i < j → IsPlaceOf xs x j → get_or (xs ++ x ∷ []) i 0 < get_or (xs ++ x ∷ []) j 0
    by i j less (inl at) =
        let first = get_or_append_left xs (x ∷ []) 0 i (omega (arith, at.0)) in
        let rest = up.rises i j less at.0 in
        omega (arith, first, at.1, rest)
    by i j less (inr at) =
        let there : i < length xs = omega (arith, at.0) in
        let first = get_or_append_left xs (x ∷ []) 0 i there in
        let rest = below i 0 there in
        omega (arith, first, at.1, rest)

pub IsRising-front : (xs ys : List ℕ) → IsRising (xs ++ ys) → IsRising xs
IsRising-front xs ys up = record {
  rises = λ i j less within.
      let rest = up.rises i j less (omega (arith, length-append xs ys, within)) in
      let first = get_or_append_left xs ys 0 i (omega arith) in
      let second = get_or_append_left xs ys 0 j within in
      omega (arith, rest, first, second);
}

-- the last member is the greatest
pub below-last : (xs : List ℕ) (x : ℕ) → IsRising (xs ++ x ∷ []) → All (λ y. y < x) xs
below-last xs x up k d within =
    let rest = up.rises k (length xs) within (omega (arith, length_push xs x)) in
    let first = get_or_append_left xs (x ∷ []) 0 k within in
    let second = get_or_push xs x 0 (length xs) refl in
    let same = get_or_default xs k d 0 within in
    omega (arith, rest, first, second, same)

pub All-front : (P : ℕ → Type 0) (xs ys : List ℕ) → All P (xs ++ ys) → All P xs
All-front P xs ys all k d within =
    let it = all k d (omega (arith, length-append xs ys, within)) in
    rw (get_or_append_left xs ys d k within) at it

-- the list without its last member
pub front-is : (xs front : List ℕ) (last : ℕ) → xs ≡ front ++ last ∷ [] → take (length xs - 1) xs ≡ front
front-is xs front last is =
    rw is (take_at front (last ∷ []) (length (front ++ last ∷ []) - 1) (omega (arith, length_push front last)))

-- a list ends with what stands at its last place
pub ends_with : (xs : List ℕ) → 0 < length xs → EndsWith xs (get_or xs (length xs - 1) 0)
ends_with xs some =
    let more = take_more xs (length xs - 1) 0 (omega arith) in
    let all = take_all (length xs - 1 + 1) xs (omega arith) in
    record { front = take (length xs - 1) xs; is = sym all ∙ more }

pub ends-same : (xs : List ℕ) (x y : ℕ) → EndsWith xs x → EndsWith xs y → x ≡ y
ends-same xs x y one other = (same_from_push one.front other.front x y (sym one.is ∙ other.is)).1

pub at_most-last : (xs : List ℕ) (x : ℕ) → EndsWith xs x → IsRising xs → All (λ y. y ≤ x) xs
at_most-last xs x ends up =
    let below = below-last ends.front x (rw ends.is at up) in
    let all =
    All-push (λ y. y ≤ x) ends.front x
    (All-weaker (λ y. y < x) (λ y. y ≤ x) (λ y less. omega arith) ends.front below) (omega arith) in
    rw ends.is all
