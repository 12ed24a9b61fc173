-- A rising list that has the numbers of another is as long.
use Rattle.std.proofs.Common.{◌≡◌, refl, sym, ap, ◌∙◌, arith, subst, ℕ, zero, suc, ◌+◌, ◌<◌, ◌≤◌, true, false, ◌||◌, inl, inr, List, [], ◌∷◌, length, eqb, eq-eqb}
use Rattle.std.specs.List.{range_with_len}
use Rattle.std.proofs.lemmas.Bool.{ne_eqb, cases_lt, or_right}
use Rattle.lists.proofs.Rising.{among, RisesFrom}

-- a number is among those behind the first, where it isn't that
pub among-others : (x n : ℕ) (xs : List ℕ) → (x ≡ n → ⊥) → among n (x ∷ xs) ≡ true → among n xs ≡ true
among-others x n xs other is = ap (λ t. t || among n xs) (sym (ne_eqb x n other)) ∙ is

pub among-first : (x : ℕ) (xs : List ℕ) → among x (x ∷ xs) ≡ true
among-first x xs = ap (λ t. t || among x xs) (eq-eqb x x refl)

-- the numbers of a list that rises from a number are at least that
at-least : (least n : ℕ) (xs : List ℕ) → RisesFrom least xs → among n xs ≡ true → least ≤ n
at-least least n [] rises has = absurd (cc)
at-least least n (x ∷ xs) rises has = elim (cases_lt n least) [
  | inl low ↦
      let later : among n xs ≡ true = among-others x n xs (λ same. omega (arith, same, rises.0, low)) has in
      omega (arith, at-least (x + 1) n xs rises.1 later, rises.0)
  | inr high ↦ high
]

pub no-longer : (least : ℕ) (xs ys : List ℕ) → RisesFrom least xs → RisesFrom least ys → ((n : ℕ) → among n xs ≡ true → among n ys ≡ true) → length xs ≤ length ys
no-longer least [] ys rx ry has = omega arith
no-longer least (x ∷ xs) [] rx ry has = absurd (let e : false ≡ true = has x (among-first x xs) in cc e)
no-longer least (x ∷ xs) (y ∷ ys) rx ry has =
    let here : among x (y ∷ ys) ≡ true = has x (among-first x xs) in
    let high = at-least y x (y ∷ ys) (omega arith, ry.1) here in
    let other : (n : ℕ) → y < n → among n (y ∷ ys) ≡ true → among n ys ≡ true = λ n low is. among-others y n ys (λ same. omega (arith, same, low)) is in
    elim (cases_lt y x) [
      | inl low ↦
          let rest = no-longer (y + 1) (x ∷ xs) ys (omega (arith, low), rx.1) ry.1
          (λ n is. let from = at-least x n (x ∷ xs) (omega arith, rx.1) is in other n (omega (arith, low, from)) (has n is)) in
          omega (arith, rest)
      | inr not_low ↦
          let same : y ≡ x = omega (arith, not_low, high) in
          let rest = no-longer (x + 1) xs ys rx.1 (subst (λ k. RisesFrom (k + 1) ys) same ry.1)
          (λ n is. let from = at-least (x + 1) n xs rx.1 is in other n (omega (arith, same, from)) (has n (or_right (eqb x n) (among n xs) is))) in
          omega (arith, rest)
    ]

pub range-rises : (a n : ℕ) → RisesFrom a (range_with_len a n)
range-rises a zero = tt
range-rises a (suc n) = (omega arith, range-rises (a + 1) n)
