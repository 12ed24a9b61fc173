-- Where the parts of a list begin and end.
use Rattle.std.proofs.Common.{◌≡◌, ◌<◌, ◌≤◌, ◌+◌, ◌-◌, ℕ, zero, suc, List, [], ◌∷◌, ◌++◌, length, get_or, map, take, drop, Option, Some, None, refl, ap, ap₂, ◌∙◌, arith, length-append}
use Rattle.std.specs.Option.{option_map, unwrap_or}
use Rattle.std.specs.List.{PartBy, slice_get, slice_range}
use Rattle.std.proofs.lemmas.List.{take_all, take-append-le, drop-append-le, length-drop, length-map}
use Rattle.std.proofs.lemmas.Option.{slice_get-map}
use Rattle.std.proofs.Math.Seq.{drop-append_seam}
use Rattle.joined_lists.specs.Parts.{bounds_from, parts, EndAt}

bounds_at : (start : ℕ) (ends : List ℕ) (k d : ℕ) → k < length ends
    → slice_get (bounds_from start ends) k ≡ Some (get_or (start ∷ ends) k d, get_or ends k d)
bounds_at start [] k d less = absurd (omega (arith, less))
bounds_at start (end ∷ ends) zero d less = refl
bounds_at start (end ∷ ends) (suc k) d less = bounds_at end ends k d (omega (arith, less))

pub of_first : (start : ℕ) (ends : List ℕ) (k d : ℕ) → k ≡ 0 → k < length ends
    → slice_get (bounds_from start ends) k ≡ Some (start, get_or ends k d)
of_first start ends zero d none less = bounds_at start ends 0 d less
of_first start ends (suc k) d none less = absurd (omega (arith, none))

pub of_later : (start : ℕ) (ends : List ℕ) (k d : ℕ) → 0 < k → k < length ends
    → slice_get (bounds_from start ends) k ≡ Some (get_or ends (k - 1) d, get_or ends k d)
of_later start ends zero d up less = absurd (omega (arith, up))
of_later start ends (suc k) d up less =
    let before : suc k - 1 ≡ k = omega arith in
    rw before (bounds_at start ends (suc k) d less)

pub of_none : (start : ℕ) (ends : List ℕ) (k : ℕ) → length ends ≤ k → slice_get (bounds_from start ends) k ≡ None
of_none start [] k past = refl
of_none start (end ∷ ends) zero past = absurd (omega (arith, past))
of_none start (end ∷ ends) (suc k) past = of_none end ends k (omega (arith, past))

length-bounds : (start : ℕ) (ends : List ℕ) → length (bounds_from start ends) ≡ length ends
length-bounds start [] = refl
length-bounds start (end ∷ ends) = ap suc (length-bounds end ends)

begins_within : (start : ℕ) (ends : List ℕ) (size : ℕ) → EndAt start ends size → start ≤ size
begins_within start [] size is = omega (arith, is)
begins_within start (end ∷ ends) size is = omega (arith, is.0, begins_within end ends size is.1)

-- a part lies in the list
pub bounds_within : (start : ℕ) (ends : List ℕ) (size k a b : ℕ) → EndAt start ends size
    → slice_get (bounds_from start ends) k ≡ Some (a, b) → (a ≤ b) × (b ≤ size)
bounds_within start [] size k a b is at = absurd (cc at)
bounds_within start (end ∷ ends) size zero a b is at =
    let low : start ≡ a = ap (λ (o : Option (ℕ × ℕ)). (unwrap_or o (0, 0)).0) at in
    let high : end ≡ b = ap (λ (o : Option (ℕ × ℕ)). (unwrap_or o (0, 0)).1) at in
    (omega (arith, is.0, low, high), omega (arith, high, begins_within end ends size is.1))
bounds_within start (end ∷ ends) size (suc k) a b is at = bounds_within end ends size k a b is.1 at

module _ {X : Type 0} where
  pub length-parts : (ends : List ℕ) (items : List X) → length (parts ends items) ≡ length ends
  length-parts ends items = length-map (bounds_from 0 ends) (λ (b : ℕ × ℕ). slice_range items b.0 b.1) ∙ length-bounds 0 ends

  pub part_at : (ends : List ℕ) (items : List X) (k a b : ℕ) → slice_get (bounds_from 0 ends) k ≡ Some (a, b)
      → slice_get (parts ends items) k ≡ Some (slice_range items a b)
  part_at ends items k a b at =
      slice_get-map (λ (b : ℕ × ℕ). slice_range items b.0 b.1) (bounds_from 0 ends) k
      ∙ ap (option_map (λ (b : ℕ × ℕ). slice_range items b.0 b.1)) at

  pub no_part : (ends : List ℕ) (items : List X) (k : ℕ) → slice_get (bounds_from 0 ends) k ≡ None
      → slice_get (parts ends items) k ≡ None
  no_part ends items k none =
      slice_get-map (λ (b : ℕ × ℕ). slice_range items b.0 b.1) (bounds_from 0 ends) k
      ∙ ap (option_map (λ (b : ℕ × ℕ). slice_range items b.0 b.1)) none

-- a part that lies in the list is there
pub part_there : {R X : Type 0} (now : R → List X) (xs : List X) (a b : ℕ) (found : Option R) → PartBy now xs a b found
    → a ≤ b → b ≤ length xs → option_map now found ≡ Some (slice_range xs a b)
part_there now xs a b None is up within = cc (is.1 (up, within))
part_there now xs a b (Some part) is up within = ap Some is.0.2

module _ {X : Type 0} (xs ys : List X) where
  last_part : (end : ℕ) → end ≡ length (xs ++ ys) → slice_range (xs ++ ys) (length xs) end ≡ ys
  last_part end is =
      let size = length-append xs ys in
      ap (take (end - length xs)) (drop-append_seam xs ys) ∙ take_all (end - length xs) ys (omega (arith, is, size))

  same_part : (a b : ℕ) → a ≤ b → b ≤ length xs → slice_range (xs ++ ys) a b ≡ slice_range xs a b
  same_part a b up within =
      let size = length-drop a xs in
      ap (take (b - a)) (drop-append-le a xs ys (omega (arith, up, within)))
      ∙ take-append-le (b - a) (drop a xs) ys (omega (arith, up, within, size))

  pushed_from : (start : ℕ) (ends : List ℕ) (end : ℕ) → EndAt start ends (length xs) → end ≡ length (xs ++ ys)
      → map (λ (b : ℕ × ℕ). slice_range (xs ++ ys) b.0 b.1) (bounds_from start (ends ++ end ∷ []))
      ≡ map (λ (b : ℕ × ℕ). slice_range xs b.0 b.1) (bounds_from start ends) ++ ys ∷ []
  pushed_from start [] end is last = rw is (ap (λ (zs : List X). zs ∷ []) (last_part end last))
  pushed_from start (next ∷ ends) end is last =
      ap₂ (λ (p : List X) (ps : List (List X)). p ∷ ps)
      (same_part start next is.0 (begins_within next ends (length xs) is.1))
      (pushed_from next ends end is.1 last)

  -- one part more, behind the others
  pub parts_pushed : (ends : List ℕ) (end : ℕ) → EndAt 0 ends (length xs) → end ≡ length (xs ++ ys)
      → parts (ends ++ end ∷ []) (xs ++ ys) ≡ parts ends xs ++ ys ∷ []
  parts_pushed = pushed_from 0

  pub ends_pushed : (start : ℕ) (ends : List ℕ) (end : ℕ) → EndAt start ends (length xs) → end ≡ length (xs ++ ys)
      → EndAt start (ends ++ end ∷ []) (length (xs ++ ys))
  ends_pushed start [] end is last = let size = length-append xs ys in (omega (arith, is, last, size), last)
  ends_pushed start (next ∷ ends) end is last = (is.0, ends_pushed next ends end is.1 last)

-- what a part of a list has at a place
module _ {X : Type 0} where
  behind : (xs : List X) (start k : ℕ) → slice_get (drop start xs) k ≡ slice_get xs (start + k)
  behind xs zero k = let same : zero + k ≡ k = omega arith in rw same refl
  behind [] (suc start) k = refl
  behind (x ∷ xs) (suc start) k = let next : suc start + k ≡ suc (start + k) = omega arith in rw next (behind xs start k)

  before : (xs : List X) (n k : ℕ) → k < n → slice_get (take n xs) k ≡ slice_get xs k
  before xs zero k less = absurd (omega (arith, less))
  before [] (suc n) k less = refl
  before (x ∷ xs) (suc n) zero less = refl
  before (x ∷ xs) (suc n) (suc k) less = before xs n k (omega (arith, less))

  past : (xs : List X) (n k : ℕ) → n ≤ k → slice_get (take n xs) k ≡ None
  past xs zero k over = refl
  past [] (suc n) k over = refl
  past (x ∷ xs) (suc n) zero over = absurd (omega (arith, over))
  past (x ∷ xs) (suc n) (suc k) over = past xs n k (omega (arith, over))

  pub in_part : (xs : List X) (start end k : ℕ) → k < end - start → slice_get (slice_range xs start end) k ≡ slice_get xs (start + k)
  in_part xs start end k less = before (drop start xs) (end - start) k less ∙ behind xs start k

  pub past_part : (xs : List X) (start end k : ℕ) → end - start ≤ k → slice_get (slice_range xs start end) k ≡ None
  past_part xs start end k over = past (drop start xs) (end - start) k over
