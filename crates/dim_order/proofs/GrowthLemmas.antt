-- A growing list of elements.
use Rattle.std.proofs.Common.{◌≡◌, ◌⊎◌, inl, inr, ℕ, ◌+◌, ◌<◌, ◌≤◌, Bool, true, false, ◌||◌, eqb, ℤ, List, [], ◌∷◌, ◌++◌, length, take, get_or, refl, sym, ◌∙◌, arith, length-append}
use Rattle.std.specs.List.{IsDistinct}
use Rattle.std.proofs.Math.Seq.{take-append_seam, get_or-append_seam}
use Rattle.std.proofs.lemmas.Bool.{cases_lt, eqb-true}
use Rattle.std.proofs.lemmas.Cmp.{nat_eq_equiv}
use Rattle.std.proofs.lemmas.List.{take-append-le, get_or_append_left}
use Rattle.std.proofs.lemmas.List.Folds.{list_any-append}
use Rattle.std.proofs.lemmas.Map.Keys.{IsDistinct-push}
use Rattle.std.proofs.lemmas.Map.Steps.{length-le_from_distinct_below}
use Rattle.dim_order.specs.declared.joining.Joining.{Joining}
use Rattle.dim_order.specs.Members.{is_among}
use Rattle.dim_order.specs.Inside.Growth.{is_ready, IsGrown}
use Rattle.dim_order.specs.Loops.{parts_of}

-- a list that has one more member
pub is_among-push : (list : List ℕ) (e k : ℕ) → is_among (list ++ e ∷ []) k ≡ true → (is_among list k ≡ true) ⊎ (k ≡ e)
is_among-push list e k h = by (is_among list k) (eqb k e) refl refl (sym (list_any-append (eqb k) list (e ∷ [])) ∙ h)
  where
    by : (a b : Bool) → is_among list k ≡ a → eqb k e ≡ b → (is_among list k || (eqb k e || false)) ≡ true → (is_among list k ≡ true) ⊎ (k ≡ e)
    by true b p q h = inl p
    by false true p q h = inr (eqb-true k e q)
    by false false p q h = absurd (cc)

module _ (joining : Joining) (lists : List (List (ℕ × ℤ))) (list : List ℕ) (grown : IsGrown joining lists list) where
  -- an element that is ready may join
  pub push_grown : (e : ℕ) → e < length lists → is_among list e ≡ false → is_ready joining (is_among list) (parts_of lists e) ≡ true → IsGrown joining lists (list ++ e ∷ [])
  push_grown e within absent ready = record {
    distinct = IsDistinct-push nat_eq_equiv list e grown.distinct absent;
    within = λ k h. inside k (is_among-push list e k h);
    ready = λ i before. each i (cases_lt i (length list)) (simp length-append at before);
  }
    where
      inside : (k : ℕ) → (is_among list k ≡ true) ⊎ (k ≡ e) → k < length lists
      inside k (inl h) = grown.within k h
      inside k (inr h) = omega arith

      each : (i : ℕ) → (i < length list) ⊎ (length list ≤ i) → i < length list + 1 → is_ready joining (is_among (take i (list ++ e ∷ []))) (parts_of lists (get_or (list ++ e ∷ []) i 0)) ≡ true
      each i (inl before) h =
          let n : i ≤ length list = omega arith in
          rw (take-append-le i list (e ∷ []) n, get_or_append_left list (e ∷ []) 0 i before) (grown.ready i before)
      each i (inr last) h =
          let n : i ≡ length list = omega arith in
          rw (n, take-append_seam list (e ∷ []), get_or-append_seam list e [] 0) ready

  -- it has no more members than there are elements
  pub length-grown : length list ≤ length lists
  length-grown = length-le_from_distinct_below list (length lists) grown.distinct grown.within

-- the empty list
pub grown-empty : (joining : Joining) (lists : List (List (ℕ × ℤ))) → IsGrown joining lists []
unfolding IsDistinct
grown-empty joining lists = record {
  distinct = tt;
  within = λ e h. absurd (cc);
  ready = λ i before. absurd (omega arith);
}
