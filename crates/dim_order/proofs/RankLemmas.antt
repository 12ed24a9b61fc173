-- No way down leads to a greater rank.
use Rattle.std.proofs.Common.{◌≡◌, ◌⊎◌, inl, inr, ℕ, zero, suc, ◌+◌, ◌<◌, ◌≤◌, Bool, true, false, ◌||◌, eqb, ltb, ℤ, List, [], ◌∷◌, length, refl, arith, slice_index}
use Rattle.std.proofs.lemmas.Bool.{eqb-true, cases_lt}
use Rattle.std.proofs.lemmas.Bool.Decides.{nat_tests}
use Rattle.std.proofs.lemmas.List.{get_or_past}
use Rattle.dim_order.specs.Loops.{parts_of, is_reached, lies_on_loop}
use Rattle.dim_order.specs.Inside.Ranks.{are_below, AreRanks}
use Rattle.dim_order.proofs.Tests.{either, some_of_all}

-- without ranks all are 0
pub ranks_none : (lists : List (List (ℕ × ℤ))) → AreRanks lists []
ranks_none lists element there = all (parts_of lists element)
  where
    all : (parts : List (ℕ × ℤ)) → are_below [] 1 parts ≡ true
    all [] = refl
    all (part ∷ parts) = all parts

module _ (lists : List (List (ℕ × ℤ))) (ranks : List ℕ) (are : AreRanks lists ranks) where
  -- what is reached has no greater rank
  stays_below : (m from to bound : ℕ) → slice_index ranks from < bound → is_reached lists m from to ≡ true → slice_index ranks to < bound
  stays_below zero from to bound low h = absurd (cc)
  stays_below (suc m) from to bound low h = by (cases_lt from (length lists)) (λ k less there. stays_below m k to bound less there)
    where
      step : (k : ℕ) → (eqb k to ≡ true) ⊎ (is_reached lists m k to ≡ true) → slice_index ranks k < bound
          → (slice_index ranks k < bound → is_reached lists m k to ≡ true → slice_index ranks to < bound) → slice_index ranks to < bound
      step k (inl here) less rest = let same = eqb-true k to here in rw same at less
      step k (inr there) less rest = rest less there

      by : (from < length lists) ⊎ (length lists ≤ from)
          → ((k : ℕ) → slice_index ranks k < bound → is_reached lists m k to ≡ true → slice_index ranks to < bound) → slice_index ranks to < bound
      by (inl there) rest =
          let some = some_of_all (λ part. eqb part.0 to || is_reached lists m part.0 to) (λ part. ltb (slice_index ranks part.0) (slice_index ranks from + 1)) (parts_of lists from) h (are from there) in
          let less : slice_index ranks some.0.0 < slice_index ranks from + 1 = grind (arith, nat_tests, some.2) in
          step some.0.0 (either (eqb some.0.0 to) (is_reached lists m some.0.0 to) some.1) (omega (arith, less, low)) (rest some.0.0)
      by (inr past) rest = let none : parts_of lists from ≡ [] = get_or_past lists from [] past in let no : false ≡ true = rw none at h in absurd (cc)

  -- so an element whose components all have a lower rank lies on no loop
  pub no_loop_below : (e : ℕ) → are_below ranks (slice_index ranks e) (parts_of lists e) ≡ true → lies_on_loop lists e ≡ false
  no_loop_below e below = by (length lists) (is_reached lists (length lists) e e) refl
    where
      by : (m : ℕ) (b : Bool) → is_reached lists m e e ≡ b → b ≡ false
      by m false h = refl
      by zero true h = absurd (cc)
      by (suc m) true h =
          let some = some_of_all (λ part. eqb part.0 e || is_reached lists m part.0 e) (λ part. ltb (slice_index ranks part.0) (slice_index ranks e)) (parts_of lists e) h below in
          let less : slice_index ranks some.0.0 < slice_index ranks e = grind (arith, nat_tests, some.2) in
          absurd (step some.0.0 m (either (eqb some.0.0 e) (is_reached lists m some.0.0 e) some.1) less)
        where
          step : (k m : ℕ) → (eqb k e ≡ true) ⊎ (is_reached lists m k e ≡ true) → slice_index ranks k < slice_index ranks e → ⊥
          step k m (inl here) less = let same = eqb-true k e here in let no : slice_index ranks e < slice_index ranks e = rw same at less in omega arith
          step k m (inr there) less = let no = stays_below m k e (slice_index ranks e) less there in omega (arith, no)
