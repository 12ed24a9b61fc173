-- The elements of a set by place, and the cells that arguments name.
use Rattle.std.proofs.Common.{◌≡◌, refl, sym, ap, ◌∙◌, arith, subst, ℕ, zero, suc, ◌<◌, Bool, true, false, ◌||◌, ◌&&◌, ℤ, Option, Some, None, IfSome, List, [], ◌∷◌, length, get_or, ◌==◌, nat_lt, All}
use Rattle.std.specs.Prelude.{slice_get, slice_index_or, unwrap_or}
use Rattle.std.specs.List.{list_any, AllZip}
use Rattle.std.proofs.lemmas.Bool.{eq-eqb, and_parts, and_from, or_right, ltb-true, lt-ltb}
use Rattle.std.proofs.lemmas.Bool.Decides.{Decides-eqb}
use Rattle.cube_space.specs.Radix.{are_digits}
use Rattle.rule_laws.specs.declared.reference.Arg.{Arg}
use Rattle.rule_laws.specs.declared.reference.Arg.TheVariants.{Fixed, Moved}
use Rattle.rule_model.specs.Areas.{in_set}
use Rattle.rule_model.specs.Named.{with_element}
use Rattle.rule_model.specs.Targets.{element_by, elements_by}
use Rattle.rule_model.specs.Conditions.{IsArg, IsSet}
use Rattle.order_laws.specs.Greatest.{IsAtMost, only}
use Rattle.order_laws.specs.Scales.{set_count, set_element, greatest_in}
use Rattle.order_laws.proofs.GreatestFacts.{IsTop, greatest-top}
use Rattle.order_laws.proofs.ReferenceFacts.{AllFollow, moved-element}
pub use Rattle.std.proofs.lemmas.Slice.Zip.{AllZip-long as zip-long}

-- an element is there by its place
listed-place : (listed : List ℕ) (e : ℕ) → list_any (λ x. x == e) listed ≡ true → (k : ℕ) × (k < length listed) × (get_or listed k 0 ≡ e)
listed-place [] e h = absurd (cc)
listed-place (x ∷ listed) e h = by (x == e) refl h (listed-place listed e)
  where
    by : (t : Bool) → (x == e) ≡ t → t || list_any (λ x. x == e) listed ≡ true → (list_any (λ x. x == e) listed ≡ true → (k : ℕ) × (k < length listed) × (get_or listed k 0 ≡ e)) → (k : ℕ) × (k < length (x ∷ listed)) × (get_or (x ∷ listed) k 0 ≡ e)
    by true is h rest = (0, omega arith, (Decides-eqb x e).0 is)
    by false is h rest = let found = rest h in (suc found.0, omega (arith, found.1), found.2)

listed-at : (listed : List ℕ) (k : ℕ) → k < length listed → list_any (λ x. x == get_or listed k 0) listed ≡ true
listed-at [] k h = absurd (omega arith)
listed-at (x ∷ listed) zero h = ap (λ t. t || list_any (λ y. y == x) listed) (eq-eqb x x refl)
listed-at (x ∷ listed) (suc k) h = or_right (x == get_or listed k 0) _ (listed-at listed k (omega arith))

-- an element of a set of a dimension of this size
abbrev pub is_in : ℕ → Option (List ℕ) → ℕ → Bool
is_in size set e = nat_lt e size && in_set set e

pub place-of : (size : ℕ) (set : Option (List ℕ)) (e : ℕ) → is_in size set e ≡ true → (k : ℕ) × (k < set_count size set) × (set_element set k ≡ e)
place-of size None e h = (e, ltb-true e size (and_parts (nat_lt e size) true h).0, refl)
place-of size (Some listed) e h = listed-place listed e (and_parts (nat_lt e size) (in_set (Some listed) e) h).1

pub place-in : (size : ℕ) (set : Option (List ℕ)) (k : ℕ) → IsSet size set → k < set_count size set → is_in size set (set_element set k) ≡ true
place-in size None k set h = and_from (nat_lt k size) true (lt-ltb k size h) refl
place-in size (Some listed) k set h = and_from (nat_lt (get_or listed k 0) size) (in_set (Some listed) (get_or listed k 0)) (lt-ltb (get_or listed k 0) size (set.1 k 0 h)) (listed-at listed k h)

module _ (Q : ℕ → Type 0) (number : ℕ → Option ℤ) (test : ℕ → Bool) (size : ℕ) (set : Option (List ℕ)) (is_set : IsSet size set)
    (passes : (e : ℕ) → Q e → test e ≡ true) (passed : (e : ℕ) → test e ≡ true → Q e) where
  over : (z : ℤ) → IsAtMost (greatest_in number test size set) z → (e : ℕ) → Q e → IsAtMost (only (is_in size set e) (number e)) z
  over z h e q = by (is_in size set e) refl
    where
      at : (k : ℕ) → k < set_count size set → IsAtMost (only (test (set_element set k)) (number (set_element set k))) z
      at k low = (greatest-top (λ k. only (test (set_element set k)) (number (set_element set k))) (set_count size set)).over z h k low

      by : (t : Bool) → is_in size set e ≡ t → IsAtMost (only t (number e)) z
      by false is = tt
      by true is =
          let place = place-of size set e is in
          let here : IsAtMost (only (test e) (number e)) z = subst (λ x. IsAtMost (only (test x) (number x)) z) place.2 (at place.0 place.1) in
          subst (λ t. IsAtMost (only t (number e)) z) (passes e q) here

  least : (z : ℤ) → ((e : ℕ) → Q e → IsAtMost (only (is_in size set e) (number e)) z) → IsAtMost (greatest_in number test size set) z
  least z h = (greatest-top (λ k. only (test (set_element set k)) (number (set_element set k))) (set_count size set)).least z at
    where
      at : (k : ℕ) → k < set_count size set → IsAtMost (only (test (set_element set k)) (number (set_element set k))) z
      at k low = by (test (set_element set k)) refl
        where
          by : (t : Bool) → test (set_element set k) ≡ t → IsAtMost (only t (number (set_element set k))) z
          by false is = tt
          by true is = subst (λ t. IsAtMost (only t (number (set_element set k))) z) (place-in size set k is_set low) (h (set_element set k) (passed (set_element set k) is))

  pub set-top : IsTop Q (λ e. only (is_in size set e) (number e)) (greatest_in number test size set)
  set-top = record { over = over; least = least }

-- each dimension's set, also past the last
pub set-at : (sizes : List ℕ) (sets : List (Option (List ℕ))) (i : ℕ) → AllZip IsSet sizes sets → IsSet (slice_index_or sizes i 0) (slice_index_or sets i None)
set-at [] [] i h = tt
set-at [] (s ∷ sets) i h = absurd h
set-at (n ∷ sizes) [] i h = absurd h
set-at (n ∷ sizes) (s ∷ sets) zero h = h.0
set-at (n ∷ sizes) (s ∷ sets) (suc i) h = set-at sizes sets i h.1

pub follow-all : (source tsizes : List ℕ) (args : List Arg) → AllZip (IsArg source) tsizes args → AllFollow (length source) args
follow-all source [] [] h = tt
follow-all source [] (arg ∷ args) h = absurd h
follow-all source (s ∷ ss) [] h = absurd h
follow-all source (s ∷ ss) (Fixed t ∷ args) h = (tt, follow-all source ss args h.1)
follow-all source (s ∷ ss) (Moved from to ∷ args) h = (h.0.0, follow-all source ss args h.1)

-- a list that is found has its first and the others
pub with-parts : (first : Option ℕ) (rest : Option (List ℕ)) (ts : List ℕ) → with_element first rest ≡ Some ts
    → (t : ℕ) × (us : List ℕ) × (first ≡ Some t) × (rest ≡ Some us) × (t ∷ us ≡ ts)
with-parts None rest ts h = absurd (cc)
with-parts (Some t) None ts h = absurd (cc)
with-parts (Some t) (Some us) ts h = let same : t ∷ us ≡ ts = cc in (t, us, refl, refl, same)

pub named-below : (to : List (Option ℕ)) (e t size : ℕ) → All (λ target. IfSome target (λ element. element < size)) to → unwrap_or (slice_get to e) None ≡ Some t → t < size
named-below [] e t size all h = absurd (cc)
named-below (x ∷ to) zero t size all h = subst (λ target. IfSome target (λ element. element < size)) h (all 0 None (omega arith))
named-below (x ∷ to) (suc e) t size all h = named-below to e t size (λ k d low. all (suc k) d (omega arith)) h

-- what arguments name are elements of the target's dimensions
pub named-digits : (source tsizes : List ℕ) (args : List Arg) (es ts : List ℕ) → length es ≡ length source → AllZip (IsArg source) tsizes args → elements_by es args ≡ Some ts → are_digits tsizes ts ≡ true
named-digits source [] [] es ts long h is = let same : [] ≡ ts = cc in ap (are_digits []) (sym same)
named-digits source [] (arg ∷ args) es ts long h is = absurd h
named-digits source (s ∷ ss) [] es ts long h is = absurd h
named-digits source (s ∷ ss) (Fixed t ∷ args) es ts long h is =
    let (x, us, first, rest, same) = with-parts (Some t) (elements_by es args) ts is in
    let named : t ≡ x = cc in
    ap (are_digits (s ∷ ss)) (sym same) ∙ and_from (nat_lt x s) (are_digits ss us) (lt-ltb x s (subst (λ n. n < s) named h.0)) (named-digits source ss args es us long h.1 rest)
named-digits source (s ∷ ss) (Moved from to ∷ args) es ts long h is =
    let (x, us, first, rest, same) = with-parts (element_by es (Moved from to)) (elements_by es args) ts is in
    let low : from < length es = omega (arith, h.0.0) in
    let below = named-below to (get_or es from 0) x s h.0.2 (sym (moved-element es from to low) ∙ first) in
    ap (are_digits (s ∷ ss)) (sym same) ∙ and_from (nat_lt x s) (are_digits ss us) (lt-ltb x s below) (named-digits source ss args es us long h.1 rest)
