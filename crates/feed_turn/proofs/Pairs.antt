-- Elements that are put into the slots of leaves.
use Rattle.std.proofs.Common.{◌≡◌, ap, ◌∙◌, sym, arith, refl, subst, ℕ, zero, suc, ◌+◌, ◌<◌, inl, inr, Bool, true, false, ◌&&◌, ◌||◌, ◌==◌, Option, Some, None, ℤ, List, [], ◌∷◌, length, get_or, set, take, map, All, if◌then◌else◌, cond, eq-eqb}
use Rattle.std.specs.Prelude.{is_some}
use Rattle.std.specs.List.{list_any, range_with_len}
use Rattle.std.specs.List.Sorted.{IsStrictlyIncreasing}
use Rattle.std.proofs.Math.ListN.{length-set}
use Rattle.std.proofs.lemmas.Bool.{cases_lt, ne_eqb}
use Rattle.std.proofs.lemmas.Bool.Decides.{Decides-eqb}
use Rattle.std.proofs.lemmas.List.{get_or-set_same, get_or-set_other, get_or-take, get_or-map, length-map, length-take}
use Rattle.std.proofs.lemmas.List.Folds.{list_any_at, list_any_more, list_any_none}
use Rattle.dim_core.specs.Outline.{Outline}
use Rattle.dim_weights.specs.Coefficients.{coef}
use Rattle.dim_weights.specs.Table.{is_nonzero, nonzero_among, leaves_of, IsRising}
use Rattle.feed_turn.specs.Leaves.{counts}
use Rattle.feed_turn.specs.Inside.Slots.{has_leaf, IsPut, IsTaken}
use Rattle.feed_turn.proofs.Ranges.{range-at, long}

-- ---- which leaves have a value other than 0

and-false : (b : Bool) → (b && false) ≡ false
and-false true = refl
and-false false = refl

has-among : (f : ℕ → ℤ) (ls : List ℕ) (x : ℕ) → has_leaf (nonzero_among f ls) x ≡ (list_any (λ l. l == x) ls && is_nonzero (f x))
has-among f [] x = refl
has-among f (l ∷ ls) x = by (is_nonzero (f l)) (l == x) refl refl (has-among f ls x)
  where
    by : (t s : Bool) → is_nonzero (f l) ≡ t → (l == x) ≡ s → has_leaf (nonzero_among f ls) x ≡ (list_any (λ l. l == x) ls && is_nonzero (f x))
        → has_leaf (cond t ((l, f l) ∷ nonzero_among f ls) (nonzero_among f ls)) x ≡ ((s || list_any (λ l. l == x) ls) && is_nonzero (f x))
    by true true on same rest =
        let is : l ≡ x = (Decides-eqb l x).0 same in
        ap (λ b. b || has_leaf (nonzero_among f ls) x) same ∙ sym (sym (ap (λ l. is_nonzero (f l)) is) ∙ on)
    by true false on other rest = ap (λ b. b || has_leaf (nonzero_among f ls) x) other ∙ rest
    by false true off same rest =
        let is : l ≡ x = (Decides-eqb l x).0 same in
        let none : is_nonzero (f x) ≡ false = sym (ap (λ l. is_nonzero (f l)) is) ∙ off in
        rest ∙ ap (λ b. list_any (λ l. l == x) ls && b) none ∙ and-false (list_any (λ l. l == x) ls) ∙ sym none
    by false false off other rest = rest

-- a leaf is among those of an element where it counts in it
pub has-counts : (d : Outline) (element x : ℕ) → x < length d.elements → has_leaf (leaves_of d element) x ≡ counts d element x
has-counts d element x low =
    let n = length d.elements in
    let there : list_any (λ l. l == x) (range_with_len 0 n) ≡ true = list_any_at (λ l. l == x) (range_with_len 0 n) x 0 (long n x low) (eq-eqb (get_or (range_with_len 0 n) x 0) x (range-at n x 0 low)) in
    has-among (coef d element) (range_with_len 0 n) x ∙ ap (λ b. b && is_nonzero (coef d element x)) there

-- ---- slots

pub put-none : (element : ℕ) (slots : List (Option ℕ)) → IsPut [] element slots slots
put-none element slots = record { long = refl; each = λ x low. refl; free = λ x low has. absurd (cc) }

increases : (xs : List ℕ) → IsStrictlyIncreasing xs → (j k : ℕ) → j < k → k < length xs → get_or xs j 0 < get_or xs k 0
increases xs up j zero less low = absurd (omega arith)
increases xs up j (suc k) less low =
    let next : get_or xs k 0 < get_or xs (suc k) 0 = (let e : k + 1 ≡ suc k = omega arith in subst (λ n. get_or xs k 0 < get_or xs n 0) e (up k (omega (arith, low)))) in
    elim (cases_lt j k) [
      | inl before ↦ let rest = increases xs up j k before (omega (arith, low)) in omega (arith, rest, next)
      | inr after ↦ let same : j ≡ k = omega (arith, after, less) in subst (λ n. get_or xs n 0 < get_or xs (suc k) 0) (sym same) next
    ]

module _ (pairs : List (ℕ × ℤ)) (k : ℕ) (d : ℕ × ℤ) (low : k < length pairs) where
  -- in a rising list no pair before has the same leaf
  not-before : IsRising pairs → has_leaf (take k pairs) (get_or pairs k d).0 ≡ false
  not-before up = list_any_none (λ (pair : ℕ × ℤ). pair.0 == (get_or pairs k d).0) (take k pairs) other
    where
      other : All (λ (pair : ℕ × ℤ). (pair.0 == (get_or pairs k d).0) ≡ false) (take k pairs)
      other j e less =
          let before : j < k = omega (arith, less, length-take k pairs) in
          let first = get_or-map (λ (pair : ℕ × ℤ). pair.0) pairs j e 0 (omega (arith, before, low)) in
          let second = get_or-map (λ (pair : ℕ × ℤ). pair.0) pairs k d 0 low in
          let rise = increases (map (λ (pair : ℕ × ℤ). pair.0) pairs) up j k before (omega (arith, low, length-map pairs (λ (pair : ℕ × ℤ). pair.0))) in
          let at = ap (λ (pair : ℕ × ℤ). pair.0) (get_or-take k pairs j e before) in
          ne_eqb (get_or (take k pairs) j e).0 (get_or pairs k d).0 (λ same. omega (arith, first, second, rise, at, same))

  module _ (element : ℕ) (old cur : List (Option ℕ)) (put : IsPut (take k pairs) element old cur) (inside : (get_or pairs k d).0 < length old) where
    was : has_leaf (take k pairs) (get_or pairs k d).0 ≡ false → get_or cur (get_or pairs k d).0 None ≡ get_or old (get_or pairs k d).0 None
    was off = put.each (get_or pairs k d).0 inside ∙ ap (λ b. if b then Some element else get_or old (get_or pairs k d).0 None) off

    pub put-taken : IsRising pairs → is_some (get_or cur (get_or pairs k d).0 None) ≡ true → IsTaken pairs old
    put-taken up on = (
      (get_or pairs k d).0,
      inside,
      list_any_at (λ (pair : ℕ × ℤ). pair.0 == (get_or pairs k d).0) pairs k d low (eq-eqb (get_or pairs k d).0 (get_or pairs k d).0 refl),
      ap is_some (sym (was (not-before up))) ∙ on,
    )

    -- a slot that is free was so before
    was-free : get_or cur (get_or pairs k d).0 None ≡ None → (b : Bool) → has_leaf (take k pairs) (get_or pairs k d).0 ≡ b → get_or old (get_or pairs k d).0 None ≡ None
    was-free clear true on = absurd (let full : Some element ≡ None = sym (put.each (get_or pairs k d).0 inside ∙ ap (λ b. if b then Some element else get_or old (get_or pairs k d).0 None) on) ∙ clear in cc)
    was-free clear false off = sym (was off) ∙ clear

    pub put-more : get_or cur (get_or pairs k d).0 None ≡ None → IsPut (take (k + 1) pairs) element old (set cur (get_or pairs k d).0 (Some element))
    put-more clear = record {
      long = length-set cur (get_or pairs k d).0 (Some element) ∙ put.long;
      each = λ x less. each x less ((get_or pairs k d).0 == x) refl;
      free = λ x less has. free x less ((get_or pairs k d).0 == x) refl (sym (more x) ∙ has);
    }
      where
        more : (x : ℕ) → has_leaf (take (k + 1) pairs) x ≡ (has_leaf (take k pairs) x || ((get_or pairs k d).0 == x))
        more x = list_any_more (λ (pair : ℕ × ℤ). pair.0 == x) pairs k d low

        or-true : (b : Bool) → (b || true) ≡ true
        or-true true = refl
        or-true false = refl

        or-false : (b : Bool) → (b || false) ≡ b
        or-false true = refl
        or-false false = refl

        each : (x : ℕ) → x < length old → (b : Bool) → ((get_or pairs k d).0 == x) ≡ b
            → get_or (set cur (get_or pairs k d).0 (Some element)) x None ≡ (if has_leaf (take (k + 1) pairs) x then Some element else get_or old x None)
        each x less true same =
            let is : (get_or pairs k d).0 ≡ x = (Decides-eqb (get_or pairs k d).0 x).0 same in
            let has : has_leaf (take (k + 1) pairs) x ≡ true = more x ∙ ap (λ b. has_leaf (take k pairs) x || b) same ∙ or-true (has_leaf (take k pairs) x) in
            ap (λ y. get_or (set cur (get_or pairs k d).0 (Some element)) y None) (sym is)
            ∙ get_or-set_same cur (get_or pairs k d).0 (Some element) None (omega (arith, inside, put.long))
            ∙ ap (λ b. if b then Some element else get_or old x None) (sym has)
        each x less false other =
            let differ : x ≡ (get_or pairs k d).0 → ⊥ = (λ same. let yes : true ≡ false = sym (eq-eqb (get_or pairs k d).0 x (sym same)) ∙ other in absurd (cc)) in
            let has : has_leaf (take (k + 1) pairs) x ≡ has_leaf (take k pairs) x = more x ∙ ap (λ b. has_leaf (take k pairs) x || b) other ∙ or-false (has_leaf (take k pairs) x) in
            get_or-set_other cur (get_or pairs k d).0 x (Some element) None differ ∙ put.each x less ∙ ap (λ b. if b then Some element else get_or old x None) (sym has)

        free : (x : ℕ) → x < length old → (b : Bool) → ((get_or pairs k d).0 == x) ≡ b → (has_leaf (take k pairs) x || ((get_or pairs k d).0 == x)) ≡ true → get_or old x None ≡ None
        free x less true same has =
            let is : (get_or pairs k d).0 ≡ x = (Decides-eqb (get_or pairs k d).0 x).0 same in
            ap (λ y. get_or old y None) (sym is) ∙ was-free clear (has_leaf (take k pairs) (get_or pairs k d).0) refl
        free x less false other has =
            put.free x less (sym (ap (λ b. has_leaf (take k pairs) x || b) other ∙ or-false (has_leaf (take k pairs) x)) ∙ has)
