-- The cell's own element of the target's dimension, moved by so many places.
use Rattle.std.proofs.Common.{◌≡◌, ℕ, zero, suc, ◌<◌, ◌≤◌, ◌+◌, ◌-◌, ℤ, pos, negsuc, ◌+ℤ◌, List, length, map, get_or, min, unsigned_abs, Bool, true, false, Option, Some, None, All, refl, sym, ap, ◌∙◌, subst, arith, slice_get, slice_index_or, nat_lt, ltb, cond, ◌==◌}
use Rattle.std.specs.Prelude.{if◌then◌else◌, ◌≤ℤ◌, ◌<ℤ◌}
use Rattle.std.proofs.lemmas.Int.{ints}
use Rattle.std.proofs.lemmas.Bool.{and_parts, ltb-true, ltb-false, lt-ltb, le-ltb, eqb-true}
use Rattle.std.proofs.lemmas.List.{length-map}
use Rattle.std.specs.List.{range_with_len}
use Rattle.std.specs.Option.{option_map_or, option_and_then}
use Rattle.std.proofs.lemmas.Option.{slice_get_past}
use Rattle.cube_space.specs.Layout.{Layout, dims_of}
use Rattle.dim_core.specs.Outline.{Outline, IsDimension, index_of, names_of}
use Rattle.rule_laws.specs.Maps.{behind, before, place_behind, place_before}
use Rattle.bind_arguments.specs.Bound.{dimension_at, name_at, index_in, followed_step, followed, name_given, element_given}
use Rattle.bind_arguments.specs.Argument.{size_at, table}
use Rattle.bind_arguments.specs.Inside.Within.{is_within}
use Rattle.bind_arguments.specs.Inside.Moves.{IsOwnMove, moved_by}
use Rattle.bind_arguments.specs.declared.bound_argument.BoundArgument.{BoundArgument}
use Rattle.bind_arguments.proofs.ArgumentFolds.{of-current, of-place}
use Rattle.bind_arguments.proofs.Around.{found_dimension}
use Rattle.bind_arguments.proofs.NamesGiven.{current_parts, place_parts, given_current, given_place}
use Rattle.bind_arguments.proofs.Tables.{map_same, element_is, size_is}

-- ---- the element at an index

module _ (d : Outline) (valid : IsDimension d) where
  abbrev named : Option (List ℕ) → Option ℕ
  named = option_and_then (index_of d)

  past-none : (k : ℕ) → length d.elements ≤ k → named (slice_get (names_of d.elements) k) ≡ None
  past-none k high = ap named (slice_get_past (names_of d.elements) k (omega (arith, high, length-map d.elements (λ x. x.name))))

  named-behind : (n k : ℕ) → named (name_at d (pos (suc k) +ℤ pos n)) ≡ place_behind (length d.elements) n k
  named-behind n k =
      let next : suc k + n ≡ suc (k + n) = omega arith in
      ap (λ j. named (name_at d (pos j))) next ∙ by (nat_lt (k + n) (length d.elements)) refl
    where
      by : (b : Bool) → nat_lt (k + n) (length d.elements) ≡ b → named (slice_get (names_of d.elements) (k + n)) ≡ (if b then Some (k + n) else None)
      by true e = element_is d (k + n) valid (ltb-true (k + n) (length d.elements) e)
      by false e = past-none (k + n) (ltb-false (k + n) (length d.elements) e)

  named-before : (m k : ℕ) → k < length d.elements → named (name_at d (pos (suc k) +ℤ negsuc m)) ≡ place_before (suc m) k
  named-before m k low = by (ltb (suc k) (suc m)) refl
    where
      none : k < suc m → None ≡ place_before (suc m) k
      none far = sym (ap (λ b. if b then None else Some (k - suc m)) (lt-ltb k (suc m) far))

      at : (j : ℕ) → suc k - suc m ≡ j → suc m ≤ suc k → named (name_at d (pos j)) ≡ place_before (suc m) k
      at zero e near = none (omega (arith, e, near))
      at (suc j) e near =
          let here : j ≡ k - suc m = omega (arith, e) in
          let past : suc m ≤ k = omega (arith, e) in
          element_is d j valid (omega (arith, here, low)) ∙ ap Some here ∙ sym (ap (λ b. if b then None else Some (k - suc m)) (le-ltb k (suc m) past))

      by : (b : Bool) → ltb (suc k) (suc m) ≡ b → named (name_at d (cond b (negsuc (suc m - suc (suc k))) (pos (suc k - suc m)))) ≡ place_before (suc m) k
      by true e = none (let less = ltb-true (suc k) (suc m) e in omega (arith, less))
      by false e = at (suc k - suc m) refl (ltb-false (suc k) (suc m) e)

  moved-each : (n : ℤ) → moved_by (length d.elements) n ≡ map (λ k. named (name_at d (pos (suc k) +ℤ n))) (range_with_len 0 (length d.elements))
  moved-each (pos n) = map_same (place_behind (length d.elements) n) (λ k. named (name_at d (pos (suc k) +ℤ pos n))) 0 (length d.elements) (λ k low. sym (named-behind n k))
  moved-each (negsuc m) = map_same (place_before (suc m)) (λ k. named (name_at d (pos (suc k) +ℤ negsuc m))) 0 (length d.elements) (λ k low. sym (named-before m k (omega (arith, low))))

-- ---- the table of an argument that moves the cell's own element

pub moved_table : (space : Layout) (cube dim : ℕ) (a : BoundArgument) (place : ℕ) (n : ℤ) (dims : List ℕ) (d : Outline) → dims_of space cube ≡ dims → All (λ k. k < length space.dimensions) dims
    → slice_get space.dimensions dim ≡ Some d → IsDimension d → is_within space cube a ≡ true → IsOwnMove dim n a → followed a ≡ Some place
    → moved_by (size_at space cube place) n ≡ table space cube dim a place
moved_table space cube dim a place n dims d are all there valid within move follows =
    let parts = place_parts space cube a within dim dim move.of n move.moved in
    let current = current_parts space cube move.of parts.of_within move.place dim move.own in
    let (inside, same) = and_parts (nat_lt move.place (length (dims_of space cube))) (slice_index_or (dims_of space cube) move.place 0 == dim) current.placed in
    let own : followed a ≡ Some move.place = ap followed move.moved ∙ of-place (Option ℕ) followed_step dim dim move.of n ∙ ap followed move.own ∙ of-current (Option ℕ) followed_step move.place dim in
    let e : move.place ≡ place = cc in
    let low : move.place < length dims = subst (λ l. move.place < length l) are (ltb-true move.place (length (dims_of space cube)) inside) in
    let at : get_or dims move.place 0 ≡ dim = ap (λ l. get_or l move.place 0) (sym are) ∙ eqb-true _ dim same in
    let found = found_dimension space dim d there in
    let size : size_at space cube move.place ≡ length d.elements = size_is space cube dims are all move.place low ∙ ap (λ k. length (dimension_at space k).elements) at ∙ ap (λ o. length o.elements) found in
    let here : size_at space cube place ≡ length d.elements = ap (size_at space cube) (sym e) ∙ size in
    ap (λ k. moved_by k n) here ∙ moved-each d valid n
    ∙ map_same (λ k. option_and_then (index_of d) (name_at d (pos (suc k) +ℤ n))) (element_given space dim a) 0 (length d.elements) (λ k small. sym (given found k small))
    ∙ ap (λ k. map (element_given space dim a) (range_with_len 0 k)) (sym here)
  where
    given : dimension_at space dim ≡ d → (k : ℕ) → k < 0 + length d.elements → element_given space dim a k ≡ option_and_then (index_of d) (name_at d (pos (suc k) +ℤ n))
    given found k small =
        ap (λ o. option_and_then (index_of o) (name_given space k a)) found
        ∙ ap (option_and_then (index_of d)) (given_place space k a dim dim move.of n d d move.moved there there
        ∙ ap (λ o. name_at d (index_in d o +ℤ n)) (given_current space k move.of move.place dim d move.own there)
        ∙ ap (λ o. name_at d (option_map_or (λ e. pos (suc e)) o (pos 0) +ℤ n)) (element_is d k valid (omega (arith, small))))

-- ---- a move farther than there are elements

far-behind : (size most n e : ℕ) → size ≤ most → e < size → place_behind size (min n most) e ≡ place_behind size n e
far-behind size most n e few low = by (nat_lt (e + n) size) refl
  where
    by : (b : Bool) → nat_lt (e + n) size ≡ b → place_behind size (min n most) e ≡ (if b then Some (e + n) else None)
    by true h =
        let near : e + n < size = ltb-true (e + n) size h in
        let same : min n most ≡ n = omega (arith, near, few) in
        ap (λ k. place_behind size k e) same ∙ ap (λ b. if b then Some (e + n) else None) h
    by false h =
        let far : size ≤ e + n = ltb-false (e + n) size h in
        let past : size ≤ e + min n most = omega (arith, far, few) in
        ap (λ b. if b then Some (e + min n most) else None) (le-ltb (e + min n most) size past)

far-before : (size most n e : ℕ) → size ≤ most → e < size → place_before (min n most) e ≡ place_before n e
far-before size most n e few low = by (nat_lt e n) refl
  where
    by : (b : Bool) → nat_lt e n ≡ b → place_before (min n most) e ≡ (if b then None else Some (e - n))
    by true h =
        let far : e < n = ltb-true e n h in
        ap (λ b. if b then None else Some (e - min n most)) (lt-ltb e (min n most) (omega (arith, far, few, low)))
    by false h =
        let near : n ≤ e = ltb-false e n h in
        let same : min n most ≡ n = omega (arith, near, few, low) in
        ap (λ k. place_before k e) same ∙ ap (λ b. if b then None else Some (e - n)) h

pub behind-most : (size most : ℕ) (n : ℤ) → size ≤ most → pos 0 ≤ℤ n → behind size (min (unsigned_abs n) most) ≡ moved_by size n
behind-most size most (pos n) few h = map_same (place_behind size (min n most)) (place_behind size n) 0 size (λ e low. far-behind size most n e few (omega (arith, low)))
behind-most size most (negsuc n) few h = absurd (omega (arith, ints, h))

pub before-most : (size most : ℕ) (n : ℤ) → size ≤ most → n <ℤ pos 0 → before size (min (unsigned_abs n) most) ≡ moved_by size n
before-most size most (pos n) few h = absurd (omega (arith, ints, h))
before-most size most (negsuc n) few h = map_same (place_before (min (suc n) most)) (place_before (suc n)) 0 size (λ e low. far-before size most (suc n) e few (omega (arith, low)))
