-- How many cells a rising list has at most.
use Rattle.std.proofs.Common.{sym, subst, arith, ℕ, suc, ◌+◌, ◌<◌, ◌≤◌, inl, inr, List, [], ◌∷◌, ◌++◌, length}
use Rattle.std.specs.List.{Contains}
use Rattle.std.specs.List.Sorted.{IsStrictlyIncreasing}
use Rattle.std.proofs.lemmas.Bool.{cases_eq}
use Rattle.std.proofs.lemmas.List.{length-append}
use Rattle.cell_store.proofs.Rising.{AllAbove, Rises, Rises-from_increasing}
use Rattle.feed_map.proofs.Counts.{IsWithin, above-has}
use Rattle.feed_sources.proofs.Members.{none-there, at-front, behind, front-or-behind}

all-above : (n : ℕ) (xs : List ℕ) → ((c : ℕ) → Contains xs c → n < c) → AllAbove n xs
all-above n [] each = tt
all-above n (x ∷ xs) each = (each x (at-front x xs), all-above n xs (λ c has. each c (behind x xs c has)))

-- a rising list without one of its cells
record IsWithout (u : ℕ) (xs rest : List ℕ) : Type 0 where
  pub rises : Rises rest
  pub part : IsWithin rest xs
  pub none : Contains rest u → ⊥
  pub counts : length xs ≤ suc (length rest)

without : (u : ℕ) (xs : List ℕ) → Rises xs → (rest : List ℕ) × IsWithout u xs rest
without u [] rises = ([], record { rises = tt; part = λ c has. has; none = λ has. none-there u has; counts = omega arith })
without u (x ∷ xs) rises =
    elim (cases_eq x u) [
      | inl same ↦ (
        xs,
        record {
          rises = rises.1;
          part = λ c has. behind x xs c has;
          none = λ has. (let later = above-has x xs u rises.0 has in omega (arith, later, same));
          counts = omega arith;
        },
      )
      | inr other ↦ (let later = without u xs rises.1 in (
        x ∷ later.0,
        record {
          rises = (all-above x later.0 (λ c has. above-has x xs c rises.0 (later.1.part c has)), later.1.rises);
          part = λ c has. elim (front-or-behind x later.0 c has) [
            | inl is ↦ subst (Contains (x ∷ xs)) is (at-front x xs)
            | inr more ↦ behind x xs c (later.1.part c more)
          ];
          none = λ has. elim (front-or-behind x later.0 u has) [
            | inl is ↦ absurd (other is)
            | inr more ↦ absurd (later.1.none more)
          ];
          counts = (let few = later.1.counts in omega (arith, few));
        },
      ))
    ]

few-within : (us xs : List ℕ) → Rises xs → IsWithin xs us → length xs ≤ length us
few-within [] [] rises within = omega arith
few-within [] (x ∷ xs) rises within = absurd (none-there x (within x (at-front x xs)))
few-within (u ∷ us) xs rises within =
    let less = without u xs rises in
    let few = few-within us less.0 less.1.rises
    (λ c has. elim (front-or-behind u us c (within c (less.1.part c has))) [
      | inl is ↦ absurd (less.1.none (subst (Contains less.0) (sym is) has))
      | inr more ↦ more
    ]) in
    let count = less.1.counts in
    omega (arith, few, count)

-- each of its cells is in one of two lists
pub few-in_both : (xs ys zs : List ℕ) → IsStrictlyIncreasing xs → ((c : ℕ) → Contains xs c → Contains (ys ++ zs) c) → length xs ≤ length ys + length zs
few-in_both xs ys zs rises within =
    let few = few-within (ys ++ zs) xs (Rises-from_increasing xs rises) within in
    omega (arith, few, length-append ys zs)
