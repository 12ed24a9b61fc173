-- The elements of an area, where another set stands in one dimension.
use Rattle.std.proofs.Common.{◌≡◌, refl, ap, ◌∙◌, arith, ℕ, zero, suc, ◌+◌, ◌-◌, ◌<◌, ◌≤◌, Bool, true, false, ◌||◌, Option, Some, None, List, [], ◌∷◌, length, map, get_or, set, ◌==◌, All, inl, inr}
use Rattle.std.specs.List.{list_any, range_with_len, AllZip}
use Rattle.std.specs.List.Sorted.{IsStrictlyIncreasing}
use Rattle.std.proofs.lemmas.Bool.{eq-eqb, and_parts, and_from, or_right, cases_lt}
use Rattle.std.proofs.lemmas.Bool.Decides.{Decides-eqb}
use Rattle.std.proofs.lemmas.List.{get_or-map, length-map}
use Rattle.std.proofs.lemmas.List.Kept.{AllPairs-from_increasing}
use Rattle.std.proofs.lemmas.List.FromFn.{length-range_with_len, get_or-range_with_len}
use Rattle.cube_space.specs.Layout.{Layout, axes, sizes}
use Rattle.rule_model.specs.declared.area.Area.{Area}
use Rattle.rule_model.specs.Areas.{in_set, in_sets}
use Rattle.rule_model.specs.Conditions.{IsSet, IsArea}
use Rattle.order_laws.specs.Scales.{set_count, set_element}
use Rattle.order_laws.proofs.SetFacts.{set-at}
use Rattle.ref_order.proofs.Sums.{sets-long, set-found}
use Rattle.late_example.specs.Inside.Narrowing.{places_of, set_at, narrowed}

-- elements that are in an area stay in it where their element is in the other set
pub keep : (sets : List (Option (List ℕ))) (es : List ℕ) (i : ℕ) (x : Option (List ℕ)) → in_sets sets es ≡ true → in_set x (get_or es i 0) ≡ true → length es ≡ length sets → in_sets (set sets i x) es ≡ true
unfolding in_sets
keep [] es i x h k long = h
keep (s ∷ sets) [] i x h k long = absurd (omega (arith, long))
keep (s ∷ sets) (e ∷ es) zero x h k long = and_from (in_set x e) (in_sets sets es) k (and_parts (in_set s e) (in_sets sets es) h).1
keep (s ∷ sets) (e ∷ es) (suc i) x h k long =
    let parts = and_parts (in_set s e) (in_sets sets es) h in
    and_from (in_set s e) (in_sets (set sets i x) es) parts.0 (keep sets es i x parts.1 k (omega (arith, long)))

-- elements that are in it have theirs in the set
pub inside : (sets : List (Option (List ℕ))) (es : List ℕ) (i : ℕ) → in_sets sets es ≡ true → length es ≡ length sets → i < length sets → in_set (get_or sets i None) (get_or es i 0) ≡ true
unfolding in_sets
inside [] es i h long low = absurd (omega (arith, low))
inside (s ∷ sets) [] i h long low = absurd (omega (arith, long))
inside (s ∷ sets) (e ∷ es) zero h long low = (and_parts (in_set s e) (in_sets sets es) h).0
inside (s ∷ sets) (e ∷ es) (suc i) h long low = inside sets es i (and_parts (in_set s e) (in_sets sets es) h).1 (omega (arith, long)) (omega (arith, low))

-- and are in the first area where that has all elements of the other set
pub whole : (sets : List (Option (List ℕ))) (es : List ℕ) (i : ℕ) (x : Option (List ℕ)) → in_sets (set sets i x) es ≡ true → length es ≡ length sets → i < length sets
    → (in_set x (get_or es i 0) ≡ true → in_set (get_or sets i None) (get_or es i 0) ≡ true) → in_sets sets es ≡ true
unfolding in_sets
whole [] es i x h long low own = absurd (omega (arith, low))
whole (s ∷ sets) [] i x h long low own = absurd (omega (arith, long))
whole (s ∷ sets) (e ∷ es) zero x h long low own =
    let parts = and_parts (in_set x e) (in_sets sets es) h in
    and_from (in_set s e) (in_sets sets es) (own parts.0) parts.1
whole (s ∷ sets) (e ∷ es) (suc i) x h long low own =
    let parts = and_parts (in_set s e) (in_sets (set sets i x) es) h in
    and_from (in_set s e) (in_sets sets es) parts.0 (whole sets es i x parts.1 (omega (arith, long)) (omega (arith, low)) own)

pub set-here : {X : Type 0} (xs : List X) (i : ℕ) (x d : X) → i < length xs → get_or (set xs i x) i d ≡ x
set-here [] i x d low = absurd (omega (arith, low))
set-here (y ∷ xs) zero x d low = refl
set-here (y ∷ xs) (suc i) x d low = set-here xs i x d (omega (arith, low))

pub set-before : {X : Type 0} (xs : List X) (i j : ℕ) (x d : X) → j < i → get_or (set xs i x) j d ≡ get_or xs j d
set-before [] i j x d low = refl
set-before (y ∷ xs) zero j x d low = absurd (omega (arith, low))
set-before (y ∷ xs) (suc i) zero x d low = refl
set-before (y ∷ xs) (suc i) (suc j) x d low = set-before xs i j x d (omega (arith, low))

pub length-put : {X : Type 0} (xs : List X) (i : ℕ) (x : X) → length (set xs i x) ≡ length xs
length-put [] i x = refl
length-put (y ∷ xs) zero x = refl
length-put (y ∷ xs) (suc i) x = ap suc (length-put xs i x)

-- ---- the elements at places of a set

any-range : (f : ℕ → ℕ) (e a n : ℕ) → list_any (λ x. x == e) (map f (range_with_len a n)) ≡ true → (k : ℕ) × (a ≤ k) × (k < a + n) × (f k ≡ e)
any-range f e a zero h = absurd (cc)
any-range f e a (suc n) h = by (f a == e) refl h (any-range f e (a + 1) n)
  where
    by : (t : Bool) → (f a == e) ≡ t → t || list_any (λ x. x == e) (map f (range_with_len (a + 1) n)) ≡ true
        → (list_any (λ x. x == e) (map f (range_with_len (a + 1) n)) ≡ true → (k : ℕ) × (a + 1 ≤ k) × (k < a + 1 + n) × (f k ≡ e)) → (k : ℕ) × (a ≤ k) × (k < a + suc n) × (f k ≡ e)
    by true is h rest = (a, omega arith, omega arith, (Decides-eqb (f a) e).0 is)
    by false is h rest = let found = rest h in (found.0, omega (arith, found.1), omega (arith, found.2), found.3)

range-any : (f : ℕ → ℕ) (a n k : ℕ) → a ≤ k → k < a + n → list_any (λ x. x == f k) (map f (range_with_len a n)) ≡ true
range-any f a zero k from low = absurd (omega (arith, from, low))
range-any f a (suc n) k from low = elim (cases_lt a k) [
  | inl after ↦ or_right (f a == f k) _ (range-any f (a + 1) n k (omega (arith, after)) (omega (arith, low)))
  | inr before ↦ let same : a ≡ k = omega (arith, from, before) in
      ap (λ t. t || list_any (λ x. x == f k) (map f (range_with_len (a + 1) n))) (eq-eqb (f a) (f k) (ap f same))
]

pub place-found : (x : Option (List ℕ)) (from to e : ℕ) → in_set (Some (places_of x from to)) e ≡ true → from ≤ to → (k : ℕ) × (from ≤ k) × (k < to) × (set_element x k ≡ e)
place-found x from to e h le =
    let found = any-range (set_element x) e from (to - from) h in
    (found.0, found.1, omega (arith, found.2, le), found.3)

pub found-place : (x : Option (List ℕ)) (from to k : ℕ) → from ≤ k → k < to → in_set (Some (places_of x from to)) (set_element x k) ≡ true
found-place x from to k le low = range-any (set_element x) from (to - from) k le (omega (arith, le, low))

-- the elements of a set rise, and are below the size
pub rises : (size : ℕ) (x : Option (List ℕ)) (j k : ℕ) → IsSet size x → j < k → k < set_count size x → set_element x j < set_element x k
rises size None j k is less low = less
rises size (Some listed) j k is less low = AllPairs-from_increasing listed is.0 j k 0 less low

pub below : (size : ℕ) (x : Option (List ℕ)) (k : ℕ) → IsSet size x → k < set_count size x → set_element x k < size
below size None k is low = low
below size (Some listed) k is low = is.1 k 0 low

pub length-places : (x : Option (List ℕ)) (from to : ℕ) → length (places_of x from to) ≡ to - from
length-places x from to = length-map (range_with_len from (to - from)) (set_element x) ∙ length-range_with_len from (to - from)

pub place-at : (x : Option (List ℕ)) (from to k d : ℕ) → k < to - from → get_or (places_of x from to) k d ≡ set_element x (from + k)
place-at x from to k d low =
    let short : k < length (range_with_len from (to - from)) = omega (arith, low, length-range_with_len from (to - from)) in
    get_or-map (set_element x) (range_with_len from (to - from)) k 0 d short
    ∙ ap (set_element x) (get_or-range_with_len from (to - from) k 0 low)

pub places-set : (size : ℕ) (x : Option (List ℕ)) (from to : ℕ) → IsSet size x → to ≤ set_count size x → IsSet size (Some (places_of x from to))
places-set size x from to is le = (up, each)
  where
    up : IsStrictlyIncreasing (places_of x from to)
    up k low =
        let long = length-places x from to in
        let one = place-at x from to k 0 (omega (arith, low, long)) in
        let two = place-at x from to (k + 1) 0 (omega (arith, low, long)) in
        let less = rises size x (from + k) (from + (k + 1)) is (omega arith) (omega (arith, low, long, le)) in
        omega (arith, one, two, less)

    each : All (λ element. element < size) (places_of x from to)
    each k d low =
        let long = length-places x from to in
        let one = place-at x from to k d (omega (arith, low, long)) in
        let less = below size x (from + k) is (omega (arith, low, long, le)) in
        omega (arith, one, less)

put-zip : {X : Type 0} (R : ℕ → X → Type 0) (ss : List ℕ) (xs : List X) (i : ℕ) (x : X) → AllZip R ss xs → R (get_or ss i 0) x → AllZip R ss (set xs i x)
put-zip R [] [] i x all own = all
put-zip R [] (y ∷ xs) i x all own = absurd all
put-zip R (s ∷ ss) [] i x all own = absurd all
put-zip R (s ∷ ss) (y ∷ xs) zero x all own = (own, all.1)
put-zip R (s ∷ ss) (y ∷ xs) (suc i) x all own = (all.0, put-zip R ss xs i x all.1 own)

-- a narrowed area is one
pub narrowed-area : (space : Layout) (cube : ℕ) (area : Area) (dim from to : ℕ) → IsArea space cube area → to ≤ set_count (get_or (sizes space cube) dim 0) (set_at area dim) → IsArea space cube (narrowed area dim from to)
narrowed-area space cube area dim from to is le =
    put-zip IsSet (sizes space cube) area.sets dim (Some (places_of (set_at area dim) from to)) is
    (places-set (get_or (sizes space cube) dim 0) (set_at area dim) from to (set-at (sizes space cube) area.sets dim is) le)

-- how many elements a set has, as the code counts them
pub count_is : (space : Layout) (cube dim n end : ℕ) (area : Area) (sets : List (Option (List ℕ))) (x : Option (List ℕ)) → IsArea space cube area → dim < length (axes space cube) → sets ≡ area.sets → x ≡ get_or sets dim x
    → n ≡ get_or (sizes space cube) dim 0 → end ≡ set_count n x → end ≡ set_count (get_or (sizes space cube) dim 0) (set_at area dim)
count_is space cube dim n end area sets x is low same found size is_count =
    is_count ∙ ap (λ k. set_count k x) size
    ∙ ap (set_count (get_or (sizes space cube) dim 0)) (set-found sets area.sets dim x same (omega (arith, low, sets-long space cube area is)) found)
