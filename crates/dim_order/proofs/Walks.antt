-- A walk down among elements that can't join a list comes back to where it was.
use Rattle.std.proofs.Common.{◌≡◌, ◌⊎◌, inl, inr, ℕ, zero, suc, ◌<◌, ◌≤◌, Bool, true, false, ◌||◌, ◌&&◌, cond, eqb, ℤ, List, [], ◌∷◌, ◌++◌, length, get_or, None, refl, sym, ◌∙◌, subst, arith, All, length-append}
use Rattle.std.specs.List.{IsDistinct, list_any, list_all, range_with_len}
use Rattle.std.proofs.lemmas.Bool.{true≢false, eqb-true, eq-eqb}
use Rattle.std.proofs.lemmas.Cmp.{nat_eq_equiv}
use Rattle.std.proofs.lemmas.List.Elements.{All-head, All-tail}
use Rattle.std.proofs.lemmas.List.FromFn.{length-range_with_len, get_or-range_with_len}
use Rattle.std.proofs.lemmas.Map.Keys.{IsDistinct-push}
use Rattle.std.proofs.lemmas.Map.Steps.{length-le_from_distinct_below, le-length_from_below}
use Rattle.dim_order.specs.declared.joining.Joining.TheVariants.{AfterAllParts}
use Rattle.dim_order.specs.Members.{is_among}
use Rattle.dim_order.specs.Inside.Growth.{IsGrown, IsSettled, AreSettled}
use Rattle.dim_order.specs.Loops.{parts_of, is_reached, lies_on_loop, first_on_loop, ArePartsWithin}
use Rattle.dim_order.proofs.GrowthLemmas.{length-grown, is_among-push}
use Rattle.dim_order.proofs.LoopLemmas.{parts_within, is_reached-more}
use Rattle.lists.proofs.Places.{none_passes}
use Rattle.dim_order.proofs.Tests.{either, first_holds, second_holds, list_any-implied}

-- the first component that is not in the list
first_out : List ℕ → List (ℕ × ℤ) → ℕ
first_out list [] = 0
first_out list (part ∷ parts) = cond (is_among list part.0) (first_out list parts) part.0

-- an element that is not in the list
record IsOut (lists : List (List (ℕ × ℤ))) (list : List ℕ) (e : ℕ) : Type 0 where
  inside : e < length lists
  absent : is_among list e ≡ false

-- there is such a component where not all are in the list
module _ (lists : List (List (ℕ × ℤ))) (list : List ℕ) where
  is_out : (parts : List (ℕ × ℤ)) → All (λ part. part.0 < length lists) parts → list_all (λ part. is_among list part.0) parts ≡ false
      → IsOut lists list (first_out list parts) × ((f : ℕ → Bool) → f (first_out list parts) ≡ true → list_any (λ part. f part.0) parts ≡ true)
  unfolding first_out
  is_out [] within h = absurd (cc)
  is_out (part ∷ parts) within h = by (is_among list part.0) refl h (is_out parts (All-tail (λ part. part.0 < length lists) part parts within))
    where
      by : (b : Bool) → is_among list part.0 ≡ b → (b && list_all (λ part. is_among list part.0) parts) ≡ false
          → (list_all (λ part. is_among list part.0) parts ≡ false → IsOut lists list (first_out list parts) × ((f : ℕ → Bool) → f (first_out list parts) ≡ true → list_any (λ part. f part.0) parts ≡ true))
          → IsOut lists list (cond b (first_out list parts) part.0) × ((f : ℕ → Bool) → f (cond b (first_out list parts) part.0) ≡ true → (f part.0 || list_any (λ part. f part.0) parts) ≡ true)
      by true e h rest = let r = rest h in (r.0, λ f g. second_holds (f part.0) (list_any (λ part. f part.0) parts) (r.1 f g))
      by false e h rest = (record { inside = All-head (λ part. part.0 < length lists) part parts within; absent = e }, λ f g. first_holds (f part.0) (list_any (λ part. f part.0) parts) g)

module _ (lists : List (List (ℕ × ℤ))) (list : List ℕ) (settled : AreSettled AfterAllParts lists list) (within : ArePartsWithin lists) where
  next : ℕ → ℕ
  next v = first_out list (parts_of lists v)

  next_out : (v : ℕ) → IsOut lists list v → IsOut lists list (next v) × ((f : ℕ → Bool) → f (next v) ≡ true → list_any (λ part. f part.0) (parts_of lists v) ≡ true)
  unfolding next
  next_out v out = by (settled v out.inside)
    where
      by : IsSettled AfterAllParts lists list v → IsOut lists list (first_out list (parts_of lists v)) × ((f : ℕ → Bool) → f (first_out list (parts_of lists v)) ≡ true → list_any (λ part. f part.0) (parts_of lists v) ≡ true)
      by (inl h) = absurd (true≢false (sym h ∙ out.absent))
      by (inr h) = is_out lists list (parts_of lists v) (parts_within lists within v out.inside) h

  -- one step more
  one_step : (m v : ℕ) → IsOut lists list v → is_reached lists (suc m) v (next v) ≡ true
  one_step m v out = (next_out v out).1 (λ k. eqb k (next v) || is_reached lists m k (next v)) (first_holds (eqb (next v) (next v)) (is_reached lists m (next v) (next v)) (eq-eqb (next v) (next v) refl))

  step_more : (m q v : ℕ) → IsOut lists list v → is_reached lists m q v ≡ true → is_reached lists (suc m) q (next v) ≡ true
  step_more zero q v out h = absurd (cc)
  step_more (suc m) q v out h =
      list_any-implied (λ part. eqb part.0 v || is_reached lists m part.0 v) (λ part. eqb part.0 (next v) || is_reached lists (suc m) part.0 (next v))
      (λ part one. by part.0 (either (eqb part.0 v) (is_reached lists m part.0 v) one) (step_more m part.0 v out))
      (parts_of lists q) h
    where
      by : (k : ℕ) → (eqb k v ≡ true) ⊎ (is_reached lists m k v ≡ true) → (is_reached lists m k v ≡ true → is_reached lists (suc m) k (next v) ≡ true) → (eqb k (next v) || is_reached lists (suc m) k (next v)) ≡ true
      by k (inl here) rest =
          let P : ℕ → Type 0 = λ x. is_reached lists (suc m) x (next v) ≡ true in
          second_holds (eqb k (next v)) (is_reached lists (suc m) k (next v)) (subst P (sym (eqb-true k v here)) (one_step m v out))
      by k (inr there) rest = second_holds (eqb k (next v)) (is_reached lists (suc m) k (next v)) (rest there)

  module _ (start : ℕ) (out : IsOut lists list start) (free : (e : ℕ) → e < length lists → lies_on_loop lists e ≡ false) where
    walk : ℕ → ℕ
    walk zero = start
    walk (suc i) = next (walk i)

    path : ℕ → List ℕ
    path zero = start ∷ []
    path (suc i) = path i ++ next (walk i) ∷ []

    -- the first i steps come by different elements, and each of them leads on to the next
    record IsPath (i : ℕ) : Type 0 where
      here : IsOut lists list (walk i)
      distinct : IsDistinct eqb (path i)
      inside : (q : ℕ) → is_among (path i) q ≡ true → q < length lists
      leads : (q : ℕ) → is_among (path i) q ≡ true → is_reached lists (suc i) q (next (walk i)) ≡ true
      long : length (path i) ≡ suc i

    first_path : IsPath 0
    unfolding walk path IsDistinct
    first_path = record {
      here = out;
      distinct = (tt, tt);
      inside = λ q h. at q h (λ e. omega (arith, out.inside));
      leads = λ q h. at q h (λ e. let P : ℕ → Type 0 = λ x. is_reached lists 1 x (next start) ≡ true in subst P (sym e) (one_step 0 start out));
      long = refl;
    }
      where
        at : {G : Type 0} (q : ℕ) → (eqb q start || false) ≡ true → (q ≡ start → G) → G
        at q h f = elim (either (eqb q start) false h) [ inl e ↦ f (eqb-true q start e) | inr e ↦ absurd (cc) ]

    next_path : (i : ℕ) → suc i ≤ length lists → IsPath i → IsPath (suc i)
    unfolding walk path
    next_path i short p =
        let w = next (walk i) in
        let o = (next_out (walk i) p.here).0 in
        record {
          here = o;
          distinct = IsDistinct-push nat_eq_equiv (path i) w p.distinct (fresh (is_among (path i) w) refl);
          inside = λ q h. elim (is_among-push (path i) w q h) [ inl there ↦ p.inside q there | inr e ↦ omega (arith, o.inside) ];
          leads = λ q h. elim (is_among-push (path i) w q h) [
            | inl there ↦ step_more (suc i) q w o (p.leads q there)
            | inr e ↦ (let P : ℕ → Type 0 = λ x. is_reached lists (suc (suc i)) x (next w) ≡ true in subst P (sym e) (one_step (suc i) w o))
          ];
          long = simp length-append (omega (arith, p.long));
        }
      where
        fresh : (b : Bool) → is_among (path i) (next (walk i)) ≡ b → b ≡ false
        fresh false h = refl
        fresh true h =
            let o = (next_out (walk i) p.here).0 in
            absurd (true≢false (sym (is_reached-more lists (suc i) (length lists) (next (walk i)) (next (walk i)) short (p.leads (next (walk i)) h)) ∙ free (next (walk i)) o.inside))

    all_paths : (i : ℕ) → i ≤ length lists → IsPath i
    all_paths zero short = first_path
    all_paths (suc i) short = next_path i short (all_paths i (omega arith))

    too_long : ⊥
    too_long =
        let p = all_paths (length lists) (omega arith) in
        let short = length-le_from_distinct_below (path (length lists)) (length lists) p.distinct p.inside in
        omega (arith, short, p.long)

-- a list that no element can join, and that lacks some, has a loop
pub no_order : (lists : List (List (ℕ × ℤ))) (list : List ℕ) → IsGrown AfterAllParts lists list → AreSettled AfterAllParts lists list → ArePartsWithin lists
    → (length list ≡ length lists → ⊥) → first_on_loop lists ≡ None → ⊥
no_order lists list grown settled within short none =
    let long = le-length_from_below list (length lists) (λ e there. by e there (is_among list e) refl) in
    let bound = length-grown AfterAllParts lists list grown in
    short (omega (arith, long, bound))
  where
    free : (e : ℕ) → e < length lists → lies_on_loop lists e ≡ false
    free e there =
        let inside : e < length (range_with_len 0 (length lists)) = omega (arith, length-range_with_len 0 (length lists)) in
        let at : get_or (range_with_len 0 (length lists)) e 0 ≡ e = get_or-range_with_len 0 (length lists) e 0 there ∙ omega arith in
        let P : ℕ → Type 0 = λ x. lies_on_loop lists x ≡ false in
        subst P at (none_passes (lies_on_loop lists) (range_with_len 0 (length lists)) none e 0 inside)

    by : (e : ℕ) → e < length lists → (b : Bool) → is_among list e ≡ b → b ≡ true
    by e there true h = refl
    by e there false h = absurd (too_long lists list settled within e (record { inside = there; absent = h }) free)
