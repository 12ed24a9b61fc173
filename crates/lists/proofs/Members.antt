-- What a rising list has, told by `Contains`.
use Rattle.std.proofs.Common.{◌≡◌, ◌↔◌, ◌<◌, ◌+◌, ℕ, zero, suc, Bool, true, List, [], ◌∷◌, Contains, filter, get_or, ◌∙◌, subst, arith, eqb, eq-eqb, add-one}
use Rattle.std.specs.List.{range_with_len}
use Rattle.std.specs.List.Sorted.{IsStrictlyIncreasing}
use Rattle.std.proofs.lemmas.Bool.Decides.{Decides-eqb}
use Rattle.std.proofs.lemmas.List.Folds.{Any-from_list_any, list_any_at}
use Rattle.lists.proofs.Rising.{among, RisesFrom, rises, rising_same, kept_rises, among_kept}
use Rattle.lists.proofs.Found.{same_truth as alike}

pub contains_from_among : (xs : List ℕ) (n : ℕ) → among n xs ≡ true → Contains xs n
contains_from_among xs n is =
    let found = Any-from_list_any (λ x. eqb x n) xs is in
    let same : found.1 ≡ n = (Decides-eqb found.1 n).0 found.4 in
    subst (Contains xs) same (found.0, found.2, found.3)

pub among_from_contains : (xs : List ℕ) (n : ℕ) → Contains xs n → among n xs ≡ true
among_from_contains xs n has = list_any_at (λ x. eqb x n) xs has.0 n has.1 (eq-eqb (get_or xs has.0 n) n has.2)

pub same_members : (xs ys : List ℕ) → IsStrictlyIncreasing xs → IsStrictlyIncreasing ys → ((c : ℕ) → Contains xs c ↔ Contains ys c) → xs ≡ ys
same_members xs ys up_xs up_ys same =
    rising_same 0 xs ys (rises 0 xs up_xs (λ _. omega arith)) (rises 0 ys up_ys (λ _. omega arith))
    (λ n. alike (among n xs) (among n ys) (λ is. among_from_contains ys n ((same n).0 (contains_from_among xs n is))) (λ is. among_from_contains xs n ((same n).1 (contains_from_among ys n is))))

-- a number below the size is kept where it passes
pub kept_member : (p : ℕ → Bool) (size n : ℕ) → n < size → p n ≡ true → Contains (filter p (range_with_len 0 size)) n
kept_member p size n less passes = contains_from_among (filter p (range_with_len 0 size)) n (among_kept p 0 size n (omega arith) (omega (arith, less)) ∙ passes)

pub increasing : (least : ℕ) (xs : List ℕ) → RisesFrom least xs → IsStrictlyIncreasing xs
increasing least [] rises k low = absurd (omega arith)
increasing least (x ∷ []) rises k low = absurd (omega arith)
increasing least (x ∷ y ∷ ys) rises zero low = omega (arith, rises.1.0)
increasing least (x ∷ y ∷ ys) rises (suc k) low =
    let later = increasing (x + 1) (y ∷ ys) rises.1 k (omega arith) in
    let next = rw add-one at later in
    rw add-one next

-- what is kept of a range increases
pub kept_increases : (p : ℕ → Bool) (size : ℕ) → IsStrictlyIncreasing (filter p (range_with_len 0 size))
kept_increases p size = increasing 0 (filter p (range_with_len 0 size)) (kept_rises p 0 size)
