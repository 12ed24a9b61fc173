-- Rows of sources.
use Rattle.std.proofs.Common.{◌≡◌, refl, sym, ap, ◌∙◌, subst, arith, ℕ, zero, suc, ◌+◌, ◌<◌, ◌≤◌, ◌⊎◌, inl, inr, Bool, true, false, ◌||◌, List, [], ◌∷◌, ◌++◌, length, take, set, Contains, get_or, if◌then◌else◌, eqb, ◌==◌}
use Rattle.std.specs.Prelude.{slice_index_or}
use Rattle.std.specs.List.{list_any}
use Rattle.std.specs.List.Sorted.{IsStrictlyIncreasing}
use Rattle.std.proofs.lemmas.Bool.{eqb-true}
use Rattle.std.proofs.lemmas.Bool.Decides.{eqb_tells}
use Rattle.std.proofs.lemmas.List.{append-nil, length-append, length-set, length-take-le, get_or-set_same, get_or-set_other, get_or-take, get_or_default}
use Rattle.std.proofs.lemmas.List.Elements.{Contains-append_cases, Contains-push}
use Rattle.std.proofs.lemmas.List.Folds.{Any-from_list_any, list_any_more}
use Rattle.std.proofs.lemmas.List.Kept.{AllPairs-from_increasing}
use Rattle.order_find.specs.Filing.{Adds}

-- one more number, or none
abbrev pub one : Bool → ℕ → List ℕ
one b k = if b then k ∷ [] else []

one-has : (b : Bool) (k j : ℕ) → Contains (one b k) j → (b ≡ true) × (k ≡ j)
one-has true k j (zero, low, is) = (refl, is)
one-has true k j (suc i, low, is) = absurd (omega (arith, low))
one-has false k j (i, low, is) = absurd (omega (arith, low))

one-long : (b : Bool) (k : ℕ) → length (one b k) ≤ 1
one-long true k = omega arith
one-long false k = omega arith

-- a row with one more number
pub added-has : (b : Bool) (row : List ℕ) (k j : ℕ) → Contains (row ++ one b k) j → Contains row j ⊎ ((b ≡ true) × (k ≡ j))
added-has b row k j has = by (Contains-append_cases row (one b k) j has)
  where
    by : Contains row j ⊎ Contains (one b k) j → Contains row j ⊎ ((b ≡ true) × (k ≡ j))
    by (inl old) = inl old
    by (inr new) = inr (one-has b k j new)

pub has-added : (b : Bool) (row : List ℕ) (k : ℕ) → b ≡ true → Contains (row ++ one b k) k
has-added true row k is = Contains-push row k
has-added false row k is = absurd (cc is)

pub added-long : (b : Bool) (row : List ℕ) (k : ℕ) → length (row ++ one b k) ≤ suc (length row)
added-long b row k = omega (arith, length-append row (one b k), one-long b k)

-- one row
pub adds-at : (rows : List (List ℕ)) (at k : ℕ) (row : List ℕ) → at < length rows → row ≡ get_or rows at [] → Adds (λ n. at == n) k rows (set rows at (row ++ k ∷ []))
adds-at rows at k row low is = record { rows = length-set rows at (row ++ k ∷ []); each = λ n. by n (at == n) (eqb_tells at n) refl }
  where
    by : (n : ℕ) (b : Bool) → ((eqb at n ≡ true) × (at ≡ n)) ⊎ ((eqb at n ≡ false) × (at ≡ n → ⊥)) → (at == n) ≡ b
        → slice_index_or (set rows at (row ++ k ∷ [])) n [] ≡ slice_index_or rows n [] ++ one (at == n) k
    by n b (inl (e, same)) is' =
        subst (λ m. slice_index_or (set rows at (row ++ k ∷ [])) m [] ≡ slice_index_or rows m [] ++ one (at == n) k) same
        (get_or-set_same rows at (row ++ k ∷ []) [] low ∙ ap (λ r. r ++ k ∷ []) is ∙ ap (λ c. get_or rows at [] ++ one c k) (sym e))
    by n b (inr (e, other)) is' =
        get_or-set_other rows at n (row ++ k ∷ []) [] (λ same. other (sym same)) ∙ sym (append-nil (get_or rows n [])) ∙ ap (λ c. get_or rows n [] ++ one c k) (sym e)

pub adds-none : (k : ℕ) (rows : List (List ℕ)) → Adds (λ n. false) k rows rows
adds-none k rows = record { rows = refl; each = λ n. sym (append-nil (get_or rows n [])) }

-- and another one
twice : (a b : Bool) (row : List ℕ) (k : ℕ) → (a ≡ true → b ≡ true → ⊥) → (row ++ one a k) ++ one b k ≡ row ++ one (a || b) k
twice true true row k not = absurd (not refl refl)
twice true false row k not = append-nil (row ++ k ∷ [])
twice false b row k not = ap (λ r. r ++ one b k) (append-nil row)

adds-too : (holds : ℕ → Bool) (at k : ℕ) (old mid new : List (List ℕ)) → (holds at ≡ true → ⊥) → Adds holds k old mid → Adds (λ n. at == n) k mid new
    → Adds (λ n. holds n || (at == n)) k old new
adds-too holds at k old mid new not a b = record {
  rows = b.rows ∙ a.rows;
  each = λ n.
      b.each n ∙ ap (λ r. r ++ one (at == n) k) (a.each n)
      ∙ twice (holds n) (at == n) (slice_index_or old n []) k (λ here same. not (subst (λ m. holds m ≡ true) (sym (eqb-true at n same)) here));
}

adds-same : (one-way other : ℕ → Bool) (k : ℕ) (old new : List (List ℕ)) → ((n : ℕ) → one-way n ≡ other n) → Adds one-way k old new → Adds other k old new
adds-same one-way other k old new same a = record { rows = a.rows; each = λ n. a.each n ∙ ap (λ b. slice_index_or old n [] ++ one b k) (same n) }

-- the rows of the elements before one of a rising list, and its own
pub adds-more : (first k i : ℕ) (listed : List ℕ) (old mid new : List (List ℕ)) → i < length listed → IsStrictlyIncreasing listed
    → Adds (λ n. list_any (λ e. first + e == n) (take i listed)) k old mid → Adds (λ n. first + get_or listed i 0 == n) k mid new
    → Adds (λ n. list_any (λ e. first + e == n) (take (i + 1) listed)) k old new
adds-more first k i listed old mid new low up a b =
    adds-same (λ n. list_any (λ e. first + e == n) (take i listed) || (first + get_or listed i 0 == n)) (λ n. list_any (λ e. first + e == n) (take (i + 1) listed)) k old new
    (λ n. sym (list_any_more (λ e. first + e == n) listed i 0 low))
    (adds-too (λ n. list_any (λ e. first + e == n) (take i listed)) (first + get_or listed i 0) k old mid new not a b)
  where
    x : ℕ
    x = get_or listed i 0

    not : list_any (λ e. first + e == first + x) (take i listed) ≡ true → ⊥
    not is =
        let (j, e, less, here, same) = Any-from_list_any (λ e. first + e == first + x) (take i listed) is in
        let before : j < i = omega (arith, less, length-take-le i listed (omega (arith, low))) in
        let there : get_or listed j 0 ≡ e = get_or_default listed j 0 e (omega (arith, before, low)) ∙ sym (get_or-take i listed j e before) ∙ here in
        let rise : get_or listed j 0 < get_or listed i 0 = AllPairs-from_increasing listed up j i 0 before low in
        let alike : first + e ≡ first + x = eqb-true (first + e) (first + x) same in
        omega (arith, there, rise, alike)
