-- The cells that aren't known, cell by cell.
use Rattle.std.proofs.Common.{◌≡◌, ◌≢◌, sym, subst, None, Some, ℕ, zero, suc, ◌+◌, ◌-◌, ◌<◌, ◌≤◌, ◌⊎◌, inl, inr, List, [], ◌∷◌, ◌++◌, length, take, get_or, arith}
use Rattle.std.specs.List.{Contains, All, slice_get}
use Rattle.std.specs.List.Sorted.{IsNonDecreasing, IsPermutation, IsStrictlyIncreasing}
use Rattle.std.proofs.lemmas.Bool.{cases_lt}
use Rattle.std.proofs.lemmas.List.Kept.{AllPairs-from_increasing}
use Rattle.std.proofs.lemmas.Bool.Decides.{leb_tells}
use Rattle.std.proofs.lemmas.List.{take_more}
use Rattle.std.proofs.lemmas.List.Sorted.{Contains-permutation, IsPermutation-sym}
use Rattle.std.proofs.lemmas.List.Elements.{All-contains, Contains-append_left, Contains-push, Contains-push_cases}
use Rattle.cell_store.specs.Cells.{next_from}
use Rattle.cell_store.proofs.Rising.{AllAbove, Rises, Rises-from_increasing, increasing_from_Rises}
use Rattle.feed_map.specs.Inside.Gains.{AreFresh}
use Rattle.feed_sources.proofs.Members.{none-there, at-front, behind, front-or-behind}

-- a list that rises goes on rising with a greater cell
above-all : (n x : ℕ) (xs : List ℕ) → AllAbove n xs → n < x → AllAbove n (xs ++ x ∷ [])
above-all n x [] above low = (low, tt)
above-all n x (y ∷ xs) above low = (above.0, above-all n x xs above.1 low)

rises-push : (xs : List ℕ) (x : ℕ) → Rises xs → ((c : ℕ) → Contains xs c → c < x) → Rises (xs ++ x ∷ [])
rises-push [] x rises low = (tt, tt)
rises-push (y ∷ xs) x rises low = (above-all y x xs rises.0 (low y (at-front y xs)), rises-push xs x rises.1 (λ c has. low c (behind y xs c has)))

taken-at : (xs : List ℕ) (n c : ℕ) → n ≤ length xs → Contains (take n xs) c → (k : ℕ) × (k < n) × (get_or xs k 0 ≡ c)
taken-at xs zero c few has = absurd (none-there c has)
taken-at [] (suc n) c few has = absurd (omega (arith, few))
taken-at (x ∷ xs) (suc n) c few has =
    elim (front-or-behind x (take n xs) c has) [
      | inl is ↦ (0, omega arith, is)
      | inr more ↦ (let later = taken-at xs n c (omega (arith, few)) more in (suc later.0, omega (arith, later.1), later.2))
    ]

at-taken : (xs : List ℕ) (n k : ℕ) → n ≤ length xs → k < n → Contains (take n xs) (get_or xs k 0)
at-taken [] n k few low = absurd (omega (arith, few, low))
at-taken (x ∷ xs) zero k few low = absurd (omega (arith, low))
at-taken (x ∷ xs) (suc n) zero few low = at-front x (take n xs)
at-taken (x ∷ xs) (suc n) (suc k) few low = behind x (take n xs) (get_or xs k 0) (at-taken xs n k (omega (arith, few)) (omega (arith, low)))

module _ (known found fresh : List ℕ) (place : ℕ) (low : place < length found) (are : AreFresh known (take place found) fresh) where
  abbrev here : ℕ
  here = get_or found place 0

  taken : take (place + 1) found ≡ take place found ++ here ∷ []
  taken = take_more found place 0 low

  cases : (c : ℕ) → Contains (take (place + 1) found) c → Contains (take place found) c ⊎ (here ≡ c)
  cases c has = Contains-push_cases (take place found) here c (subst (λ (xs : List ℕ). Contains xs c) taken has)

  before : (c : ℕ) → Contains (take place found) c → Contains (take (place + 1) found) c
  before c has = subst (λ (xs : List ℕ). Contains xs c) (sym taken) (Contains-append_left (take place found) (here ∷ []) c has)

  -- nothing new comes where the cell is there already
  pub fresh-same : (Contains known here ⊎ Contains fresh here) → AreFresh known (take (place + 1) found) fresh
  fresh-same either = record {
    rising = are.rising;
    listed = λ c has. before c (are.listed c has);
    new = are.new;
    each = λ c has. elim (cases c has) [
      | inl earlier ↦ are.each c earlier
      | inr is ↦ subst (λ (x : ℕ). Contains known x ⊎ Contains fresh x) is either
    ];
  }

  pub fresh-known : Contains known here → AreFresh known (take (place + 1) found) fresh
  fresh-known has = fresh-same (inl has)

  pub fresh-again : (0 < place) × (get_or found (place - 1) 0 ≡ here) → AreFresh known (take (place + 1) found) fresh
  fresh-again (some, same) =
      fresh-same (are.each here (subst (Contains (take place found)) same (at-taken found place (place - 1) (omega (arith, low)) (omega (arith, some)))))

  pub fresh-push : IsNonDecreasing found → ((place ≡ 0) ⊎ (get_or found (place - 1) 0 ≢ here)) → (Contains known here → ⊥) → AreFresh known (take (place + 1) found) (fresh ++ here ∷ [])
  fresh-push sorted other unknown = record {
    rising = increasing_from_Rises (fresh ++ here ∷ []) (rises-push fresh here (Rises-from_increasing fresh are.rising) less);
    listed = λ c has. elim (Contains-push_cases fresh here c has) [
      | inl earlier ↦ before c (are.listed c earlier)
      | inr is ↦ subst (λ (xs : List ℕ). Contains xs c) (sym taken) (subst (Contains (take place found ++ here ∷ [])) is (Contains-push (take place found) here))
    ];
    new = λ c has old. elim (Contains-push_cases fresh here c has) [
      | inl earlier ↦ are.new c earlier old
      | inr is ↦ unknown (subst (Contains known) (sym is) old)
    ];
    each = λ c has. elim (cases c has) [
      | inl earlier ↦ elim (are.each c earlier) [
        | inl old ↦ inl old
        | inr new ↦ inr (Contains-append_left fresh (here ∷ []) c new)
      ]
      | inr is ↦ inr (subst (Contains (fresh ++ here ∷ [])) is (Contains-push fresh here))
    ];
  }
    where
      less : (c : ℕ) → Contains fresh c → c < here
      less c has =
          let at = taken-at found place c (omega (arith, low)) (are.listed c has) in
          elim other [
            | inl none ↦ absurd (omega (arith, none, at.1))
            | inr differs ↦ (let up = sorted at.0 (place - 1) 0 (omega (arith, at.1)) (omega (arith, low)) in
                let next = sorted (place - 1) place 0 (omega arith) low in
                less-by c (get_or found at.0 0) (get_or found (place - 1) 0) here at.2 up next differs)
          ]
        where
          less-by : (c a b x : ℕ) → a ≡ c → a ≤ b → b ≤ x → b ≢ x → c < x
          less-by c a b x is up next differs = grind (arith, is, up, next, differs)

-- the order of what was found doesn't count
pub fresh-permuted : (known found sorted fresh : List ℕ) → IsPermutation found sorted → AreFresh known sorted fresh → AreFresh known found fresh
fresh-permuted known found sorted fresh moved are = record {
  rising = are.rising;
  listed = λ c has. Contains-permutation sorted found c (IsPermutation-sym found sorted moved) (are.listed c has);
  new = are.new;
  each = λ c has. are.each c (Contains-permutation found sorted c moved has);
}

none-above : (known : List ℕ) (k c : ℕ) → next_from known k ≡ None → Contains known c → k ≤ c → ⊥
none-above [] k c is has le = none-there c has
none-above (x ∷ xs) k c is has le =
    elim (leb_tells k x) [
      | inl t ↦ absurd (let bad = rw t.0 at is in cc)
      | inr t ↦ (let rest = rw t.0 at is in elim (front-or-behind x xs c has) [
        | inl same ↦ absurd (let less = t.1 in omega (arith, same, less, le))
        | inr more ↦ none-above xs k c rest more le
      ])
    ]

first-of : (xs : List ℕ) (x d : ℕ) → slice_get xs 0 ≡ Some x → get_or xs 0 d ≡ x
first-of [] x d is = absurd (cc)
first-of (y ∷ ys) x d is = cc

-- where no known cell is at or above the first of the cells, none of them is known
pub beyond-first : (known found : List ℕ) (least : ℕ) → IsNonDecreasing found → slice_get found 0 ≡ Some least → next_from known least ≡ None
    → All (λ cell. Contains known cell → ⊥) found
beyond-first known found least sorted first is k d low has =
    let up = sorted 0 k d (omega arith) low in
    let at = first-of found least d first in
    none-above known least (get_or found k d) is has (omega (arith, up, at))

-- ---- cells that rise

-- one cell more
pub rises-on : (xs : List ℕ) (place : ℕ) → 0 < place → ((k : ℕ) → k + 1 < place → get_or xs k 0 < get_or xs (k + 1) 0) → get_or xs (place - 1) 0 < get_or xs place 0
    → (k : ℕ) → k + 1 < place + 1 → get_or xs k 0 < get_or xs (k + 1) 0
rises-on xs place some before here k low =
    elim (cases_lt (k + 1) place) [
      | inl less ↦ before k less
      | inr past ↦ (let e : place - 1 ≡ k = omega (arith, low, past) in
          let f : place ≡ k + 1 = omega (arith, low, past) in
          subst (λ (a : ℕ). get_or xs a 0 < get_or xs (k + 1) 0) e (subst (λ (b : ℕ). get_or xs (place - 1) 0 < get_or xs b 0) f here))
    ]

pub not-falling : (xs : List ℕ) → IsStrictlyIncreasing xs → IsNonDecreasing xs
not-falling xs up i j d le low =
    elim (cases_lt i j) [
      | inl less ↦ (let under = AllPairs-from_increasing xs up i j d less low in omega (arith, under))
      | inr past ↦ (let same : i ≡ j = omega (arith, le, past) in subst (λ (k : ℕ). get_or xs i d ≤ get_or xs k d) same (omega arith))
    ]

-- cells that rise, none of which is known
pub fresh-all : (known found : List ℕ) → IsStrictlyIncreasing found → All (λ cell. Contains known cell → ⊥) found → AreFresh known found found
fresh-all known found up none = record {
  rising = up;
  listed = λ c has. has;
  new = λ c has. All-contains (λ cell. Contains known cell → ⊥) found c none has;
  each = λ c has. inr has;
}
