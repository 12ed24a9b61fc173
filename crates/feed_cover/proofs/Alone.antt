-- Where one argument alone follows a dimension of which the area has all elements.
use Rattle.std.proofs.Common.{◌≡◌, refl, ap, ◌∙◌, arith, ℕ, zero, suc, ◌+◌, ◌==◌, Bool, true, false, not, ◌&&◌, ◌||◌, Option, Some, None, List, [], ◌∷◌}
use Rattle.std.specs.Prelude.{slice_get, slice_index_or}
use Rattle.std.specs.Option.{option_map_or}
use Rattle.std.proofs.lemmas.Bool.{and_parts, eq-eqb}
use Rattle.std.proofs.Math.Bool.{and-true}
use Rattle.cube_space.specs.Layout.{axes, sizes}
use Rattle.rule_laws.specs.declared.reference.Arg.{Arg}
use Rattle.rule_laws.specs.declared.reference.Arg.TheVariants.{Fixed, Moved}
use Rattle.order_laws.specs.Scales.{set_count, set_element, is_leaf_element}
use Rattle.cover_laws.specs.Looking.{Look, each_below, sent, name_each, names_one, is_narrow, each_narrow}
use Rattle.cover_laws.specs.Covered.{has_leaves}
use Rattle.feed_cover.specs.Answers.{follows, others_stay, is_narrow_by}

pub each-same : (f g : ℕ → Bool) (n : ℕ) → ((k : ℕ) → f k ≡ g k) → each_below f n ≡ each_below g n
each-same f g zero h = refl
each-same f g (suc n) h = ap (λ t. t && each_below f n) (h n) ∙ ap (λ t. g n && t) (each-same f g n h)

module _ (counts : ℕ → ℕ → Bool) (dim e : ℕ) where
  one-stays : (test : ℕ → Bool) (arg : Arg) → not (follows dim arg) ≡ true → names_one test arg dim e ≡ true
  one-stays test (Fixed t) h = refl
  one-stays test (Moved from to) h = ap (λ t. t || option_map_or test (sent to e) false) h

  -- an argument before or behind the place
  off : (j place : ℕ) (arg : Arg) → (j == place ≡ true → ⊥) → (j == place) || not (follows dim arg) ≡ true → not (follows dim arg) ≡ true
  off j place arg differ h = by (j == place) differ h
    where
      by : (t : Bool) → (t ≡ true → ⊥) → t || not (follows dim arg) ≡ true → not (follows dim arg) ≡ true
      by true d k = absurd (d refl)
      by false d k = k

  differs : (j place : ℕ) → (j ≡ place → ⊥) → j == place ≡ true → ⊥
  differs j place h is = h ((Rattle.std.proofs.lemmas.Bool.Decides.Decides-eqb j place).0 is)

  -- those behind it
  rest : (place j n : ℕ) (args : List Arg) → j ≡ place + suc n → others_stay dim place j args ≡ true → name_each counts j args dim e ≡ true
  rest place j n [] at h = refl
  rest place j n (arg ∷ args) at h =
      let parts = and_parts _ _ h in
      ap (λ t. t && name_each counts (suc j) args dim e) (one-stays (counts j) arg (off j place arg (differs j place (λ same. omega (arith, same, at))) parts.0))
      ∙ rest place (suc j) (suc n) args (omega (arith, at)) parts.1

  -- the arguments name what counts from an element where the one at the place does
  pub alone : (place j n : ℕ) (args : List Arg) (by : List (Option ℕ)) → j + n ≡ place → slice_get args n ≡ Some (Moved dim by) → others_stay dim place j args ≡ true
      → name_each counts j args dim e ≡ option_map_or (counts place) (sent by e) false
  alone place j n [] by at is h = absurd (cc)
  alone place j zero (arg ∷ args) by at is h =
      let same : arg ≡ Moved dim by = cc in
      let here : j ≡ place = omega (arith, at) in
      ap (λ a. names_one (counts j) a dim e && name_each counts (suc j) args dim e) same
      ∙ ap (λ t. (not t || option_map_or (counts j) (sent by e) false) && name_each counts (suc j) args dim e) (eq-eqb dim dim refl)
      ∙ ap (λ t. option_map_or (counts j) (sent by e) false && t) (rest place (suc j) 0 args (omega (arith, here)) (and_parts _ _ h).1)
      ∙ and-true (option_map_or (counts j) (sent by e) false)
      ∙ ap (λ k. option_map_or (counts k) (sent by e) false) here
  alone place j (suc n) (arg ∷ args) by at is h =
      let parts = and_parts _ _ h in
      ap (λ t. t && name_each counts (suc j) args dim e) (one-stays (counts j) arg (off j place arg (differs j place (λ same. omega (arith, same, at))) parts.0))
      ∙ alone place (suc j) n args by (omega (arith, at)) is parts.1

module _ (look : Look) (own dim place : ℕ) (by : List (Option ℕ)) (counted : look.counts place ≡ has_leaves (axes look.space own) place)
    (whole : slice_index_or look.area.sets dim None ≡ None) (here : slice_get look.args place ≡ Some (Moved dim by)) (stay : others_stay dim place 0 look.args ≡ true) where
  narrow-by : (e : ℕ) → is_narrow look dim e ≡ is_narrow_by look.space look.cube own dim place by e
  unfolding is_narrow
  narrow-by e =
      ap (λ t. is_leaf_element (axes look.space look.cube) dim e && t)
      (alone look.counts dim e place 0 place look.args by (omega arith) here stay ∙ ap (λ f. option_map_or f (sent by e) false) counted)

  -- whatever each narrow element has to pass
  pub narrow-alone : (test : ℕ → Bool)
      → each_narrow look dim test ≡ each_below (λ e. not (is_narrow_by look.space look.cube own dim place by e) || test e) (slice_index_or (sizes look.space look.cube) dim 0)
  narrow-alone test =
      let n = slice_index_or (sizes look.space look.cube) dim 0 in
      ap (λ s. each_below (λ k. not (is_narrow look dim (set_element s k)) || test (set_element s k)) (set_count n s)) whole
      ∙ each-same (λ k. not (is_narrow look dim k) || test k) (λ k. not (is_narrow_by look.space look.cube own dim place by k) || test k) n (λ k. ap (λ t. not t || test k) (narrow-by k))
