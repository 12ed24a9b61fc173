-- The families that were made so far.
use Rattle.std.proofs.Common.{◌≡◌, ◌<◌, ◌∙◌, ℕ, zero, suc, Bool, true, false, Option, Some, None, List, [], ◌∷◌, ◌++◌, length, get_or, set, slice_get, eqb, refl, sym, ap, subst, arith}
use Rattle.std.specs.Option.{is_some}
use Rattle.std.proofs.lemmas.Bool.{eqb-true, eqb-false}
use Rattle.cube_space.specs.Layout.{Layout}
use Rattle.bind_arguments.specs.Bound.{dimension_at}
use Rattle.bind_arguments.specs.Inside.Families.{IsFamilyOf, AreFamiliesIn}
use Rattle.bind_arguments.specs.declared.family.Family.{Family}

-- what is put at a place stands there, and the other places stay
pub put_there : {X : Type 0} (xs : List X) (k : ℕ) (x : X) → k < length xs → slice_get (set xs k x) k ≡ Some x
put_there [] k x low = absurd (omega (arith, low))
put_there (y ∷ xs) zero x low = refl
put_there (y ∷ xs) (suc k) x low = put_there xs k x (omega (arith, low))

put_elsewhere : {X : Type 0} (xs : List X) (k i : ℕ) (x : X) → (i ≡ k → ⊥) → slice_get (set xs k x) i ≡ slice_get xs i
put_elsewhere [] k i x apart = refl
put_elsewhere (y ∷ xs) zero zero x apart = absurd (apart refl)
put_elsewhere (y ∷ xs) zero (suc i) x apart = refl
put_elsewhere (y ∷ xs) (suc k) zero x apart = refl
put_elsewhere (y ∷ xs) (suc k) (suc i) x apart = put_elsewhere xs k i x (λ same. apart (ap suc same))

-- a family that is there
pub one_there : (families : List (Option Family)) (dim : ℕ) (made : Option Family) → dim < length families → made ≡ get_or families dim made → is_some made ≡ true
    → (family : Family) × (slice_get families dim ≡ Some (Some family))
one_there [] dim made low is some = absurd (omega (arith, low))
one_there (first ∷ families) zero None low is some = absurd (cc some)
one_there (first ∷ families) zero (Some family) low is some = (family, ap Some (sym is))
one_there (first ∷ families) (suc dim) made low is some = one_there families dim made (omega (arith, low)) is some

module _ (space : Layout) where
  pub no_families : AreFamiliesIn space []
  unfolding AreFamiliesIn
  no_families dim family is = absurd (cc is)

  pub room_more : (families : List (Option Family)) → AreFamiliesIn space families → AreFamiliesIn space (families ++ None ∷ [])
  unfolding AreFamiliesIn
  room_more families are dim family is = are dim family (before families dim is)
    where
      before : (families : List (Option Family)) (dim : ℕ) → slice_get (families ++ None ∷ []) dim ≡ Some (Some family) → slice_get families dim ≡ Some (Some family)
      before [] zero is = absurd (cc is)
      before [] (suc dim) is = absurd (cc is)
      before (first ∷ families) zero is = is
      before (first ∷ families) (suc dim) is = before families dim is

  pub one_made : (families : List (Option Family)) (dim : ℕ) (family : Family) → dim < length families → AreFamiliesIn space families → IsFamilyOf (dimension_at space dim) family
      → AreFamiliesIn space (set families dim (Some family))
  unfolding AreFamiliesIn
  one_made families dim family low are is other its_own there = by (eqb other dim) refl
    where
      by : (b : Bool) → eqb other dim ≡ b → IsFamilyOf (dimension_at space other) its_own
      by true same =
          let here : other ≡ dim = eqb-true other dim same in
          let found : Some (Some family) ≡ Some (Some its_own) = sym (put_there families dim (Some family) low) ∙ ap (slice_get (set families dim (Some family))) (sym here) ∙ there in
          let e : family ≡ its_own = cc found in
          subst (λ f. IsFamilyOf (dimension_at space other) f) e (subst (λ k. IsFamilyOf (dimension_at space k) family) (sym here) is)
      by false apart = are other its_own (sym (put_elsewhere families dim other (Some family) (eqb-false other dim apart)) ∙ there)

  pub family_in : (families : List (Option Family)) (dim : ℕ) (family : Family) → AreFamiliesIn space families → slice_get families dim ≡ Some (Some family) → IsFamilyOf (dimension_at space dim) family
  unfolding AreFamiliesIn
  family_in families dim family are is = are dim family is
