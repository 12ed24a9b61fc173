-- Pairs of a word and a value: what is found by a word, by the first place of the word.
use Rattle.std.proofs.Common.{◌≡◌, ◌<◌, ◌∙◌, ℕ, zero, suc, true, false, Bool, List, [], ◌∷◌, length, map, get_or, cond, Option, Some, None, slice_get, position, bytes_eq, All, refl, ap, arith}
use Rattle.std.specs.List.{find}
use Rattle.std.proofs.lemmas.List.{length-map}
use Rattle.std.proofs.lemmas.List.Quantifiers.{position-Some}
use Rattle.lists.proofs.Places.{none_passes}

-- the words of pairs
abbrev pub words_of : {A : Type 0} → List (List ℕ × A) → List (List ℕ)
words_of pairs = map (λ pair. pair.0) pairs

-- the first pair of a word
abbrev pub pair_of : {A : Type 0} → List (List ℕ × A) → List ℕ → Option (List ℕ × A)
pair_of pairs word = find (λ pair. bytes_eq pair.0 word) pairs

-- the first place of a word among the words of pairs
abbrev pub place_among : {A : Type 0} → List (List ℕ × A) → List ℕ → Option ℕ
place_among pairs word = position (λ other. bytes_eq other word) (words_of pairs)

module _ {A : Type 0} (word : List ℕ) where
  here_or_behind : (pair : List ℕ × A) (pairs : List (List ℕ × A)) (b : Bool) → bytes_eq pair.0 word ≡ b → pair_of (pair ∷ pairs) word ≡ cond b (Some pair) (pair_of pairs word)
  here_or_behind pair pairs b is = ap (λ b. cond b (Some pair) (pair_of pairs word)) is

  first_pair : (pairs : List (List ℕ × A)) (i : ℕ) → i < length pairs → ((k : ℕ) → k < i → bytes_eq (get_or (words_of pairs) k word) word ≡ false)
      → bytes_eq (get_or (words_of pairs) i word) word ≡ true → pair_of pairs word ≡ slice_get pairs i
  first_pair [] i low before here = absurd (omega (arith, low))
  first_pair (pair ∷ pairs) zero low before here = here_or_behind pair pairs true here
  first_pair (pair ∷ pairs) (suc i) low before here =
      here_or_behind pair pairs false (before 0 (omega arith))
      ∙ first_pair pairs i (omega (arith, low)) (λ k less. before (suc k) (omega (arith, less))) here

  no_pair : (pairs : List (List ℕ × A)) → All (λ other. bytes_eq other word ≡ false) (words_of pairs) → pair_of pairs word ≡ None
  no_pair [] none = refl
  no_pair (pair ∷ pairs) none =
      here_or_behind pair pairs false (none 0 word (omega arith))
      ∙ no_pair pairs (λ k d low. none (suc k) d (omega (arith, low)))

  pub place_low : (pairs : List (List ℕ × A)) (i : ℕ) → place_among pairs word ≡ Some i → i < length pairs
  place_low pairs i at =
      let first = position-Some (λ other. bytes_eq other word) (words_of pairs) i word at in
      omega (arith, first.0, length-map pairs (λ pair. pair.0))

  -- the pair at the first place of a word
  pub pair_there : (pairs : List (List ℕ × A)) (i : ℕ) → place_among pairs word ≡ Some i → pair_of pairs word ≡ slice_get pairs i
  pair_there pairs i at =
      let first = position-Some (λ other. bytes_eq other word) (words_of pairs) i word at in
      first_pair pairs i (place_low pairs i at) first.2 first.1

  -- a word without a place has no pair
  pub pair_nowhere : (pairs : List (List ℕ × A)) → place_among pairs word ≡ None → pair_of pairs word ≡ None
  pair_nowhere pairs none = no_pair pairs (none_passes (λ other. bytes_eq other word) (words_of pairs) none)
