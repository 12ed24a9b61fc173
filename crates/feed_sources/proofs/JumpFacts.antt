-- Jumps from a number to a later one.
use Rattle.std.proofs.Common.{◌≡◌, sym, ap, ◌∙◌, arith, ℕ, suc, ◌+◌, ◌-◌, ◌*◌, ◌/◌, ◌%◌, ◌<◌, ◌≤◌, true, List, length, get_or, drop, Option, Some, None}
use Rattle.std.specs.Prelude.{slice_get}
use Rattle.std.specs.List.{All}
use Rattle.std.proofs.lemmas.List.{drop_more, get_or-map, length-map}
use Rattle.std.proofs.lemmas.Nat.{div-mul-add}
use Rattle.std.proofs.lemmas.Option.{slice_get_within, get_or_from_slice_get}
use Rattle.dim_core.specs.Outline.{Outline}
use Rattle.cube_space.specs.Radix.{product, are_digits, number_of}
use Rattle.cube_space.specs.Layout.{axes_of, sizes_of}
use Rattle.cube_space.proofs.Radix.{digits-length}
use Rattle.feed_sources.specs.Inside.Choices.{AreChosen}
use Rattle.feed_sources.proofs.SourceFacts.{axis-at}
use Rattle.feed_sources.proofs.DigitFacts.{digit-at, passed-digit, positive-left, positive-right}

-- the size at a place
pub size-at : (D : List Outline) (dims : List ℕ) (place : ℕ) (d : Outline) → All (λ dim. dim < length D) dims → place < length dims → slice_get D (get_or dims place 0) ≡ Some d
    → (place < length (sizes_of (axes_of D dims))) × (get_or (sizes_of (axes_of D dims)) place 0 ≡ length d.elements)
size-at D dims place d all low found =
    let here = axis-at D dims place d all low found in
    let within = slice_get_within (axes_of D dims) place d here in (
      omega (arith, within, length-map (axes_of D dims) (λ (o : Outline). length o.elements)),
      get_or-map (λ (o : Outline). length o.elements) (axes_of D dims) place d 0 within ∙ ap (λ (o : Outline). length o.elements) (get_or_from_slice_get (axes_of D dims) place d d here),
    )

module _ (sizes : List ℕ) (place size worth : ℕ) (low : place < length sizes) (own : get_or sizes place 0 ≡ size) (is : worth ≡ product (drop place sizes)) (some : 0 < worth) where
  parts : worth ≡ size * product (drop (place + 1) sizes)
  parts = is ∙ ap product (drop_more sizes place 0 low) ∙ ap (λ n. n * product (drop (place + 1) sizes)) own

  pub filled : 0 < size
  filled = positive-left size (product (drop (place + 1) sizes)) 0 (omega (arith, some, parts))

  pub next-worth : worth / size ≡ product (drop (place + 1) sizes)
  next-worth =
      let p = product (drop (place + 1) sizes) in
      let turned : size * p ≡ p * size + 0 = omega arith in
      ap (λ n. n / size) (parts ∙ turned) ∙ div-mul-add p size 0 filled

  pub next-some : 0 < worth / size
  next-some =
      let rest = positive-right size (product (drop (place + 1) sizes)) 0 (omega (arith, some, parts)) in
      omega (arith, rest, next-worth)

  -- nothing before the jump has the chosen element at this place
  pub passed : (choices : List (Option ℕ)) (chosen number gap later : ℕ) → get_or choices place None ≡ Some chosen
      → ((k : ℕ) → k < gap → (number / (worth / size) % size + k) % size ≡ chosen → ⊥) → later ≤ number - number % (worth / size) + gap * (worth / size)
      → (elements : List ℕ) → are_digits sizes elements ≡ true → number ≤ number_of sizes elements → number_of sizes elements < later → AreChosen choices elements → ⊥
  passed choices chosen number gap later choice none upto elements are from before are_chosen =
      let next_place : place + 1 ≡ suc place = omega arith in
      let long : place < length elements = omega (arith, low, digits-length sizes elements are) in
      let element : get_or elements place 0 ≡ chosen = are_chosen place chosen long choice in
      let digit : number_of sizes elements / (worth / size) % size ≡ chosen =
      ap (λ w. number_of sizes elements / w % size) next-worth ∙ ap (λ s. number_of sizes elements / product (drop (place + 1) sizes) % s) (sym own) ∙ ap (λ k. number_of sizes elements / product (drop k sizes) % get_or sizes place 0) next_place ∙ digit-at sizes elements place are low ∙ element in
      passed-digit number (worth / size) size gap chosen next-some none (number_of sizes elements) from (omega (arith, before, upto)) digit
