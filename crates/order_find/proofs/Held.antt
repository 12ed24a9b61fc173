-- What slots hold.
use Rattle.std.proofs.Common.{◌≡◌, refl, ap, ◌∙◌, arith, ℕ, zero, suc, ◌+◌, ◌<◌, ◌≤◌, Option, Some, None, List, [], ◌∷◌, length, map, get_or}
use Rattle.std.specs.Prelude.{slice_get, slice_index_or, unwrap_or}
use Rattle.std.specs.List.{range_with_len}
use Rattle.std.specs.List.Sorted.{IsStrictlyIncreasing}
use Rattle.std.proofs.lemmas.List.{get_or_past}
use Rattle.std.proofs.lemmas.List.FromFn.{get_or-map-range_with_len, length-map-range_with_len}
use Rattle.std.proofs.lemmas.Option.{unwrap_or-slice_get}
use Rattle.cube_space.specs.Layout.{sizes}
use Rattle.rule_model.specs.Conditions.{IsSet}
use Rattle.order_laws.specs.Scales.{set_count, set_element}
use Rattle.least_ranks.specs.declared.arrow.Arrow.{Arrow}
use Rattle.read_sources.specs.declared.source.Source.{Source}
use Rattle.order_find.specs.declared.slots.Gives.{Gives}
use Rattle.read_sources.specs.Ways.{SentOver}
use Rattle.order_find.specs.Slots.{Plan, reached_from, reached_by}

abbrev pub held : List (Option Arrow) → ℕ → Option Arrow
held slots k = unwrap_or (slice_get slots k) None

-- what a source reaches over another dimension
abbrev pub set_in : Source → ℕ → Option (List ℕ)
set_in s i = slice_index_or s.area.now.sets i None

abbrev pub size_in : Plan → Source → ℕ → ℕ
size_in p s i = slice_index_or (sizes p.model.space s.cube) i 0

pub reached-length : (p : Plan) (s : Source) (gives : Gives) (i : ℕ) (to : List (Option ℕ)) → length (reached_by p s gives (SentOver i to)) ≡ set_count (size_in p s i) (set_in s i)
reached-length p s gives i to = length-map-range_with_len (λ k. reached_from p s gives i to (set_element (set_in s i) k)) 0 (set_count (size_in p s i) (set_in s i))

pub reached-held : (p : Plan) (s : Source) (gives : Gives) (i : ℕ) (to : List (Option ℕ)) (k : ℕ) → k < set_count (size_in p s i) (set_in s i)
    → held (reached_by p s gives (SentOver i to)) k ≡ reached_from p s gives i to (set_element (set_in s i) k)
reached-held p s gives i to k low =
    let from : ℕ → Option Arrow = λ k. reached_from p s gives i to (set_element (set_in s i) k) in
    let count = set_count (size_in p s i) (set_in s i) in
    unwrap_or-slice_get (map from (range_with_len 0 count)) k None ∙ get_or-map-range_with_len from 0 count k k None low (omega arith)

pub reached-past : (p : Plan) (s : Source) (gives : Gives) (i : ℕ) (to : List (Option ℕ)) (k : ℕ) → set_count (size_in p s i) (set_in s i) ≤ k
    → held (reached_by p s gives (SentOver i to)) k ≡ None
reached-past p s gives i to k past =
    unwrap_or-slice_get (reached_by p s gives (SentOver i to)) k None ∙ get_or_past (reached_by p s gives (SentOver i to)) k None (omega (arith, reached-length p s gives i to, past))

-- one of a list that is mapped
pub mapped-held : {A : Type 0} (f : A → Option Arrow) (xs : List A) (k : ℕ) (d : A) → k < length xs → f (get_or xs k d) ≡ held (map f xs) k
mapped-held f [] k d low = absurd (omega (arith, low))
mapped-held f (x ∷ xs) zero d low = refl
mapped-held f (x ∷ xs) (suc k) d low = mapped-held f xs k d (omega (arith, low))

pub mapped-past : {A : Type 0} (f : A → Option Arrow) (xs : List A) (k : ℕ) → length xs ≤ k → held (map f xs) k ≡ None
mapped-past f [] k past = refl
mapped-past f (x ∷ xs) zero past = absurd (omega (arith, past))
mapped-past f (x ∷ xs) (suc k) past = mapped-past f xs k (omega (arith, past))

-- a set has no more elements than its dimension
at-least : (xs : List ℕ) → IsStrictlyIncreasing xs → (k : ℕ) → k < length xs → k ≤ get_or xs k 0
at-least xs up zero low = omega arith
at-least xs up (suc k) low =
    let next : suc k ≡ k + 1 = omega arith in
    let before = at-least xs up k (omega arith) in
    let rise = up k (omega (arith, low)) in
    omega (arith, before, rise, ap (λ n. get_or xs n 0) next)

pub set-few : (size : ℕ) (set : Option (List ℕ)) → IsSet size set → set_count size set ≤ size
set-few size None is = omega arith
set-few size (Some listed) (up, all) = by (length listed) refl
  where
    by : (n : ℕ) → length listed ≡ n → length listed ≤ size
    by zero e = omega arith
    by (suc n) e =
        let low : n < length listed = omega arith in
        omega (arith, at-least listed up n low, all n 0 low)
