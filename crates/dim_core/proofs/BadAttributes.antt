-- The first bad call of an attribute.
use Rattle.std.proofs.Common.{◌≡◌, ◌⊎◌, inl, inr, ℕ, ◌+◌, ◌<◌, ◌≤◌, List, [], ◌∷◌, ◌++◌, length, take, get_or, refl, ap, sym, ◌∙◌, subst, arith, Bool, true, false, ◌||◌, not, Some, None, option_map, length-append, Result, Ok, Err, IfOk}
use Rattle.std.specs.List.{AllZip, IsDistinct, list_any, range_with_len}
use Rattle.std.specs.Iterator.{Yields}
use Rattle.std.specs.Vec.Iter.{into_iter_items, into_iter_steps}
use Rattle.std.specs.declared.vec.IntoIter.{IntoIter}
use Rattle.std.proofs.Math.Seq.{take-append_seam, get_or-append_seam}
use Rattle.std.proofs.lemmas.Bool.{cases_lt}
use Rattle.std.proofs.lemmas.List.{take-append-le, get_or_append_left}
use Rattle.std.proofs.lemmas.List.FromFn.{length-range_with_len, get_or-range_with_len}
use Rattle.std.proofs.lemmas.List.Folds.{list_any_at}
use Rattle.std.proofs.lemmas.List.Quantifiers.{position-Some}
use Rattle.std.proofs.lemmas.Map.Keys.{IsDistinct-push}
use Rattle.lists.proofs.Places.{position-none, position-first}
use Rattle.dim_name.specs.Name.{is_same_name, has_name, place_of}
use Rattle.dim_core.specs.declared.attribute.Attribute.{Attribute}
use Rattle.dim_core.specs.declared.attribute.NamedAttribute.{NamedAttribute}
use Rattle.dim_core.specs.Draft.{is_repeated, is_bad_attribute, call_at, first_bad_among, IsResolvedAttribute}
use Rattle.dim_core.specs.Outline.{is_same_attribute}
use Rattle.dim_core.proofs.Naming.{same_attributes, repeated-resolved}
pub use Rattle.std.proofs.lemmas.List.{nil_from_length as nothing_left}

module _ (names : List (List ℕ)) where
  -- none of these calls is bad
  abbrev pub AreGood : List NamedAttribute → Type 0
  AreGood calls = (k : ℕ) → k < length calls → is_bad_attribute names (take k calls) (call_at calls k) ≡ false

  pub first_bad-none : (calls : List NamedAttribute) → AreGood calls → first_bad_among names calls ≡ None
  first_bad-none calls good =
      ap (option_map (λ (place : ℕ). place + 1))
      (position-none (λ place. is_bad_attribute names (take place calls) (call_at calls place)) (range_with_len 0 (length calls))
      (λ k d inside.
      let there : k < length calls = omega (arith, length-range_with_len 0 (length calls)) in
      let at : get_or (range_with_len 0 (length calls)) k d ≡ k = get_or-range_with_len 0 (length calls) k d there ∙ omega arith in
      let P : ℕ → Type 0 = λ place. is_bad_attribute names (take place calls) (call_at calls place) ≡ false in
      subst P (sym at) (good k there)))

  -- what is judged of a call doesn't depend on those behind it
  judged_before : (before : List NamedAttribute) (rest : List NamedAttribute) (k : ℕ) → k < length before
      → is_bad_attribute names (take k (before ++ rest)) (call_at (before ++ rest) k) ≡ is_bad_attribute names (take k before) (call_at before k)
  judged_before before rest k inside =
      ap (λ calls. is_bad_attribute names calls (call_at (before ++ rest) k)) (take-append-le k before rest (omega arith))
      ∙ ap (is_bad_attribute names (take k before)) (get_or_append_left before rest (record { element = []; name = []; text = [] }) k inside)

  judged_last : (before : List NamedAttribute) (call : NamedAttribute) (rest : List NamedAttribute) (k : ℕ) → k ≡ length before
      → is_bad_attribute names (take k (before ++ call ∷ rest)) (call_at (before ++ call ∷ rest) k) ≡ is_bad_attribute names before call
  judged_last before call rest k last =
      ap (λ n. is_bad_attribute names (take n (before ++ call ∷ rest)) (call_at (before ++ call ∷ rest) n)) last
      ∙ ap (λ calls. is_bad_attribute names calls (call_at (before ++ call ∷ rest) (length before))) (take-append_seam before (call ∷ rest))
      ∙ ap (is_bad_attribute names before) (get_or-append_seam before call rest (record { element = []; name = []; text = [] }))

  pub good-push : (before : List NamedAttribute) (call : NamedAttribute) → AreGood before → is_bad_attribute names before call ≡ false → AreGood (before ++ call ∷ [])
  good-push before call good here k within = by (cases_lt k (length before))
    where
      by : (k < length before) ⊎ (length before ≤ k) → is_bad_attribute names (take k (before ++ call ∷ [])) (call_at (before ++ call ∷ []) k) ≡ false
      by (inl less) = judged_before before (call ∷ []) k less ∙ good k less
      by (inr more) = judged_last before call [] k (omega (arith, length-append before (call ∷ []))) ∙ here

  pub first_bad-first : (calls before : List NamedAttribute) (call : NamedAttribute) (rest : List NamedAttribute) → calls ≡ before ++ call ∷ rest → AreGood before
      → is_bad_attribute names before call ≡ true → first_bad_among names calls ≡ Some (length before + 1)
  first_bad-first calls before call rest parts good here =
      let all = before ++ call ∷ rest in
      let long : length before < length all = omega (arith, length-append before (call ∷ rest)) in
      let P : ℕ → Type 0 = λ place. is_bad_attribute names (take place all) (call_at all place) ≡ true in
      let Q : ℕ → Type 0 = λ place. is_bad_attribute names (take place all) (call_at all place) ≡ false in
      ap (first_bad_among names) parts
      ∙ ap (option_map (λ (place : ℕ). place + 1))
      (position-first (λ place. is_bad_attribute names (take place all) (call_at all place)) (range_with_len 0 (length all)) (length before) 0
      (omega (arith, length-range_with_len 0 (length all)))
      (λ k less. subst Q (sym (at all k (omega arith))) (judged_before before (call ∷ rest) k less ∙ good k less))
      (subst P (sym (at all (length before) long)) (judged_last before call rest (length before) refl ∙ here)))
    where
      at : (all : List NamedAttribute) (k : ℕ) → k < length all → get_or (range_with_len 0 (length all)) k 0 ≡ k
      at all k there = get_or-range_with_len 0 (length all) k 0 there ∙ omega arith

  -- a call of an element that is there is bad where its attribute is there already
  repeats : (before : List NamedAttribute) (attributes : List Attribute) → AllZip (IsResolvedAttribute names) before attributes → (call : NamedAttribute) (a : Attribute) → IsResolvedAttribute names call a
      → list_any (is_repeated call) before ≡ list_any (is_same_attribute a) attributes
  repeats [] [] z call a at = refl
  repeats [] (b ∷ bs) z call a at = elim z [ ]
  repeats (other ∷ others) [] z call a at = elim z [ ]
  repeats (other ∷ others) (b ∷ bs) z call a at =
      ap (λ t. t || list_any (is_repeated call) others) (repeated-resolved names call other a b at z.0)
      ∙ ap (λ t. is_same_attribute a b || t) (repeats others bs z.1 call a at)

  pub bad-resolved : (before : List NamedAttribute) (attributes : List Attribute) → AllZip (IsResolvedAttribute names) before attributes → (call : NamedAttribute) (a : Attribute) → IsResolvedAttribute names call a
      → is_bad_attribute names before call ≡ list_any (is_same_attribute a) attributes
  bad-resolved before attributes z call a at =
      let found = position-Some (is_same_name call.element) names a.element [] at.0 in
      let here : has_name names call.element ≡ true = list_any_at (is_same_name call.element) names a.element [] found.0 found.1 in
      ap (λ t. not t || list_any (is_repeated call) before) here ∙ repeats before attributes z call a at

-- what the answer of a call tells
pub is_bad : (bad added : Bool) → added ≡ not bad → added ≡ false → bad ≡ true
is_bad true added h g = refl
is_bad false added h g = absurd (cc)

pub is_good : (bad added : Bool) → added ≡ not bad → added ≡ true → bad ≡ false
is_good true added h g = absurd (cc)
is_good false added h g = refl

-- the attribute that an addition gave, and the list after it
pub once-push : (list more : List Attribute) (a : Attribute) (added : Bool) → added ≡ not (list_any (is_same_attribute a) list) → added ≡ true → more ≡ list ++ a ∷ [] → IsDistinct is_same_attribute list
    → IsDistinct is_same_attribute more
once-push list more a added new h last once =
    let D : List Attribute → Type 0 = IsDistinct is_same_attribute in
    subst D (sym last) (IsDistinct-push same_attributes list a once (is_good (list_any (is_same_attribute a) list) added new h))

-- an attribute with the element's index, and a call's name and text, is the call's
pub of_call : (names : List (List ℕ)) (call : NamedAttribute) (a : Attribute) (index : ℕ) → place_of names call.element ≡ Some index → a ≡ record { element = index; name = call.name; text = call.text }
    → IsResolvedAttribute names call a
of_call names call a index at is =
    let P : Attribute → Type 0 = IsResolvedAttribute names call in
    subst P (sym is) (at, refl, refl)

-- two facts of one value
pub two_ways : {X E : Type 0} (r : Result X E) (P Q R : X → Type 0) → ((x : X) → P x → Q x → R x) → IfOk r P → IfOk r Q → IfOk r R
two_ways (Ok x) P Q R f p q = f x p q
two_ways (Err e) P Q R f p q = tt

-- what the iterator of a vector has given is a front of its items
pub taken_front : {X A : Type 0} (s : IntoIter X A) (xs : List X) (t : IntoIter X A) → Yields into_iter_steps s xs t → into_iter_items s ≡ xs ++ into_iter_items t
taken_front s [] t y = ap into_iter_items y
taken_front s (x ∷ xs) t y = y.1.0 ∙ ap (λ ys. x ∷ ys) (taken_front y.0 xs t y.2)
