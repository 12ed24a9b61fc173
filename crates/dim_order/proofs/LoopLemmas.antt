-- What is reached by going down.
use Rattle.std.proofs.Common.{◌≡◌, ◌⊎◌, inl, inr, ℕ, zero, suc, ◌<◌, ◌≤◌, Bool, true, false, ◌||◌, eqb, ℤ, List, [], ◌∷◌, ◌++◌, length, take, get_or, None, Some, refl, sym, ◌∙◌, subst, arith, All, length-append}
use Rattle.std.specs.List.{range_with_len}
use Rattle.std.proofs.lemmas.Bool.{true≢false, eqb-true, eq-eqb}
use Rattle.std.proofs.lemmas.Cmp.{nat_eq_equiv}
use Rattle.std.proofs.lemmas.List.FromFn.{length-range_with_len, get_or-range_with_len}
use Rattle.std.proofs.lemmas.Map.Keys.{apart_from_distinct, IsDistinct-push}
use Rattle.std.proofs.lemmas.Map.Steps.{length-le_from_distinct_below}
use Rattle.dim_order.specs.declared.joining.Joining.TheVariants.{AfterAllParts, WhenLeadingTo}
use Rattle.dim_order.specs.Members.{is_among}
use Rattle.dim_order.specs.Inside.Growth.{IsGrown, IsSettled, AreSettled}
use Rattle.dim_order.specs.Loops.{parts_of, is_reached, lies_on_loop, first_on_loop, IsOrder, ArePartsWithin}
use Rattle.dim_order.proofs.GrowthLemmas.{length-grown, is_among-push}
use Rattle.lists.proofs.Places.{position-none, position-first}
use Rattle.dim_order.proofs.Tests.{either, neither, first_holds, second_holds, list_any-implied, some_of_all, list_any-none_implied, place_in_front, place_among, is_among-take}

-- the components of one element, also past the end
pub parts_within : (lists : List (List (ℕ × ℤ))) → ArePartsWithin lists → (e : ℕ) → e < length lists → All (λ part. part.0 < length lists) (parts_of lists e)
parts_within lists within e there = within e [] there

-- more steps reach no less
pub is_reached-more : (lists : List (List (ℕ × ℤ))) (m n from to : ℕ) → m ≤ n → is_reached lists m from to ≡ true → is_reached lists n from to ≡ true
is_reached-more lists zero n from to le h = absurd (cc)
is_reached-more lists (suc m) zero from to le h = absurd (omega arith)
is_reached-more lists (suc m) (suc n) from to le h =
    let fewer : m ≤ n = omega arith in
    list_any-implied (λ part. eqb part.0 to || is_reached lists m part.0 to) (λ part. eqb part.0 to || is_reached lists n part.0 to)
    (λ part one. more part.0 (either (eqb part.0 to) (is_reached lists m part.0 to) one) (is_reached-more lists m n part.0 to fewer))
    (parts_of lists from) h
  where
    more : (k : ℕ) → (eqb k to ≡ true) ⊎ (is_reached lists m k to ≡ true) → (is_reached lists m k to ≡ true → is_reached lists n k to ≡ true) → (eqb k to || is_reached lists n k to) ≡ true
    more k (inl here) rest = first_holds (eqb k to) (is_reached lists n k to) here
    more k (inr there) rest = second_holds (eqb k to) (is_reached lists n k to) (rest there)

-- a list of elements that lead to a target
module _ (lists : List (List (ℕ × ℤ))) (target : ℕ) (list : List ℕ) (grown : IsGrown (WhenLeadingTo target) lists list) where
  -- each leads there in no more steps than it has places before it
  leads_from : (n i : ℕ) → i < n → i < length list → is_reached lists (suc i) (get_or list i 0) target ≡ true
  leads_from zero i below inside = absurd (omega arith)
  leads_from (suc n) i below inside =
      list_any-implied (λ part. eqb part.0 target || is_among (take i list) part.0) (λ part. eqb part.0 target || is_reached lists i part.0 target)
      (λ part one. step part.0 (either (eqb part.0 target) (is_among (take i list) part.0) one) (λ j before within. leads_from n j (omega arith) within))
      (parts_of lists (get_or list i 0)) (grown.ready i inside)
    where
      step : (k : ℕ) → (eqb k target ≡ true) ⊎ (is_among (take i list) k ≡ true) → ((j : ℕ) → j < i → j < length list → is_reached lists (suc j) (get_or list j 0) target ≡ true) → (eqb k target || is_reached lists i k target) ≡ true
      step k (inl here) earlier = first_holds (eqb k target) (is_reached lists i k target) here
      step k (inr there) earlier =
          let at = place_in_front list i k there in
          let P : ℕ → Type 0 = λ x. is_reached lists i x target ≡ true in
          second_holds (eqb k target) (is_reached lists i k target) (subst P at.3 (is_reached-more lists (suc at.0) i (get_or list at.0 0) target (omega (arith, at.1)) (earlier at.0 at.1 at.2)))

  leads : (e : ℕ) → is_among list e ≡ true → is_reached lists (length lists) e target ≡ true
  leads e there =
      let at = place_among list e there in
      let long = length-grown (WhenLeadingTo target) lists list grown in
      let P : ℕ → Type 0 = λ x. is_reached lists (length lists) x target ≡ true in
      subst P at.2 (is_reached-more lists (suc at.0) (length lists) (get_or list at.0 0) target (omega (arith, at.1, long)) (leads_from (suc at.0) at.0 (omega arith) at.1))

  -- and no other does, where no further element can join
  leads_not : AreSettled (WhenLeadingTo target) lists list → ArePartsWithin lists → (m e : ℕ) → e < length lists → is_among list e ≡ false → is_reached lists m e target ≡ false
  leads_not settled within zero e there absent = refl
  leads_not settled within (suc m) e there absent = by (settled e there) (λ k inside out. leads_not settled within m k inside out)
    where
      by : IsSettled (WhenLeadingTo target) lists list e → ((k : ℕ) → k < length lists → is_among list k ≡ false → is_reached lists m k target ≡ false) → is_reached lists (suc m) e target ≡ false
      by (inl h) rest = absurd (true≢false (sym h ∙ absent))
      by (inr h) rest =
          list_any-none_implied (λ part. eqb part.0 target || is_among list part.0) (λ part. eqb part.0 target || is_reached lists m part.0 target)
          (λ part. part.0 < length lists)
          (λ part inside none. let f = neither (eqb part.0 target) (is_among list part.0) none in rw (f.0) (rest part.0 inside f.1))
          (parts_of lists e) (parts_within lists within e there) h

  pub on_loop : AreSettled (WhenLeadingTo target) lists list → ArePartsWithin lists → target < length lists → is_among list target ≡ lies_on_loop lists target
  on_loop settled within there = by (is_among list target) refl
    where
      by : (b : Bool) → is_among list target ≡ b → b ≡ lies_on_loop lists target
      by true h = sym (leads target h)
      by false h = sym (leads_not settled within (length lists) target there h)

-- a list of elements whose components come before
module _ (lists : List (List (ℕ × ℤ))) (list : List ℕ) (grown : IsGrown AfterAllParts lists list) where
  pub order_from_grown : length list ≡ length lists → IsOrder lists list
  order_from_grown whole = record {
    whole = whole;
    distinct = grown.distinct;
    within = grown.within;
    each = λ e there. by e there (is_among list e) refl;
    earlier = grown.ready;
  }
    where
      inside_of : (e : ℕ) → e < length lists → (k : ℕ) → (is_among list k ≡ true) ⊎ (k ≡ e) → k < length lists
      inside_of e there k (inl h) = grown.within k h
      inside_of e there k (inr h) = omega arith

      by : (e : ℕ) → e < length lists → (b : Bool) → is_among list e ≡ b → b ≡ true
      by e there true h = refl
      by e there false h =
          let more = length-le_from_distinct_below (list ++ e ∷ []) (length lists) (IsDistinct-push nat_eq_equiv list e grown.distinct h) (λ k inside. inside_of e there k (is_among-push list e k inside)) in
          absurd (omega (arith, simp length-append at more))

-- the first of all elements that lies on a loop
pub first_on_loop-first : (lists : List (List (ℕ × ℤ))) (e : ℕ) → e < length lists → ((k : ℕ) → k < e → lies_on_loop lists k ≡ false) → lies_on_loop lists e ≡ true → first_on_loop lists ≡ Some e
first_on_loop-first lists e there before here =
    let inside : e < length (range_with_len 0 (length lists)) = omega (arith, length-range_with_len 0 (length lists)) in
    let P : ℕ → Type 0 = λ x. lies_on_loop lists x ≡ true in
    let Q : ℕ → Type 0 = λ x. lies_on_loop lists x ≡ false in
    position-first (lies_on_loop lists) (range_with_len 0 (length lists)) e 0 inside
    (λ k less. subst Q (sym (at k (omega arith))) (before k less))
    (subst P (sym (at e there)) here)
  where
    at : (k : ℕ) → k < length lists → get_or (range_with_len 0 (length lists)) k 0 ≡ k
    at k h = get_or-range_with_len 0 (length lists) k 0 h ∙ omega arith

-- or none does
pub first_on_loop-free : (lists : List (List (ℕ × ℤ))) → ((k : ℕ) → k < length lists → lies_on_loop lists k ≡ false) → first_on_loop lists ≡ None
first_on_loop-free lists free =
    position-none (lies_on_loop lists) (range_with_len 0 (length lists))
    (λ k d within.
    let inside : k < length lists = omega (arith, within, length-range_with_len 0 (length lists)) in
    let at = get_or-range_with_len 0 (length lists) k d inside in
    let here : get_or (range_with_len 0 (length lists)) k d < length lists = omega arith in
    free _ here)

-- a list of elements whose components come before them in it
module _ (lists : List (List (ℕ × ℤ))) (list : List ℕ) (grown : IsGrown AfterAllParts lists list) where
  -- what is reached from an element stands before it
  reached_before : (m i to : ℕ) → i < length list → is_reached lists m (get_or list i 0) to ≡ true → is_among (take i list) to ≡ true
  reached_before zero i to inside h = absurd (cc)
  reached_before (suc m) i to inside h =
      let some = some_of_all (λ part. eqb part.0 to || is_reached lists m part.0 to) (λ part. is_among (take i list) part.0) (parts_of lists (get_or list i 0)) h (grown.ready i inside) in
      by some.0.0 some.2 (either (eqb some.0.0 to) (is_reached lists m some.0.0 to) some.1) (λ j within r. reached_before m j to within r)
    where
      by : (k : ℕ) → is_among (take i list) k ≡ true → (eqb k to ≡ true) ⊎ (is_reached lists m k to ≡ true)
          → ((j : ℕ) → j < length list → is_reached lists m (get_or list j 0) to ≡ true → is_among (take j list) to ≡ true) → is_among (take i list) to ≡ true
      by k before (inl here) rest = let P : ℕ → Type 0 = λ x. is_among (take i list) x ≡ true in subst P (eqb-true k to here) before
      by k before (inr there) rest =
          let at = place_in_front list i k before in
          let P : ℕ → Type 0 = λ x. is_reached lists m x to ≡ true in
          is_among-take list at.0 i to (omega (arith, at.1)) (rest at.0 at.2 (subst P (sym at.3) there))

  -- so none of them lies on a loop
  pub no_loop : (e : ℕ) → is_among list e ≡ true → lies_on_loop lists e ≡ false
  no_loop e there = by (lies_on_loop lists e) refl
    where
      by : (b : Bool) → lies_on_loop lists e ≡ b → b ≡ false
      by false h = refl
      by true h =
          let at = place_among list e there in
          let P : ℕ → Type 0 = λ x. is_reached lists (length lists) x e ≡ true in
          let before = place_in_front list at.0 e (reached_before (length lists) at.0 e at.1 (subst P (sym at.2) h)) in
          let apart = apart_from_distinct eqb list before.0 at.0 0 grown.distinct before.1 at.1 in
          absurd (true≢false (sym (eq-eqb _ _ (before.3 ∙ sym at.2)) ∙ apart))

-- an order of all elements
pub first_on_loop-ordered : (lists : List (List (ℕ × ℤ))) (order : List ℕ) → IsOrder lists order → first_on_loop lists ≡ None
first_on_loop-ordered lists order ordered =
    let grown : IsGrown AfterAllParts lists order = record { distinct = ordered.distinct; within = ordered.within; ready = ordered.earlier } in
    first_on_loop-free lists (λ e there. no_loop lists order grown e (ordered.each e there))
