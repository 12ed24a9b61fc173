-- The place of a key in a list of keys, before and after one more.
use Rattle.std.proofs.Common.{◌≡◌, ◌<◌, ◌+◌, ℕ, List, [], ◌∷◌, ◌++◌, length, get_or, Bool, true, false, cond, Option, Some, None, position, refl, ap, sym, ◌∙◌, arith, length-append}
use Rattle.std.specs.Cmp.{IsEquivalence}
use Rattle.std.specs.List.{list_any}
use Rattle.std.proofs.lemmas.List.{get_or_append_left}
use Rattle.std.proofs.lemmas.List.Elements.{All-push}
use Rattle.std.proofs.lemmas.List.Folds.{list_any_none, list_any_at}
use Rattle.std.proofs.lemmas.List.Quantifiers.{position-Some}
use Rattle.std.proofs.lemmas.Map.Steps.{list_any_congr}
use Rattle.std.proofs.Math.Seq.{get_or-append_seam}
use Rattle.lists.proofs.Places.{none_passes, position-none, position-first}

-- a key has a place where some key equals it
pub some_there : {X : Type 0} (p : X → Bool) (xs : List X) (i : ℕ) → position p xs ≡ Some i → list_any p xs ≡ true
some_there p [] i at = absurd (cc)
some_there p (x ∷ xs) i at = let first = position-Some p (x ∷ xs) i x at in list_any_at p (x ∷ xs) i x first.0 first.1

pub none_there : {X : Type 0} (p : X → Bool) (xs : List X) → position p xs ≡ None → list_any p xs ≡ false
none_there p xs none = list_any_none p xs (none_passes p xs none)

-- no key equals it where none is found
none_at : {X : Type 0} (p : X → Bool) (xs : List X) (k : ℕ) (d : X) → list_any p xs ≡ false → k < length xs → p (get_or xs k d) ≡ false
none_at p xs k d none within = by (p (get_or xs k d)) refl
  where
    by : (b : Bool) → p (get_or xs k d) ≡ b → b ≡ false
    by true is = let clash : true ≡ false = sym (list_any_at p xs k d within is) ∙ none in absurd (cc)
    by false is = refl

-- a new key goes last, and the others keep their places
pub place_after : {K : Type 0} {eq : K → K → Bool} → IsEquivalence eq → (keys : List K) (key q : K) → list_any (eq key) keys ≡ false
    → position (eq q) (keys ++ key ∷ []) ≡ cond (eq key q) (Some (length keys)) (position (eq q) keys)
place_after {K} {eq} laws keys key q absent = by (eq key q) refl
  where
    long : length (keys ++ key ∷ []) ≡ length keys + 1
    long = length-append keys (key ∷ [])

    before : (k : ℕ) → k < length keys → get_or (keys ++ key ∷ []) k key ≡ get_or keys k key
    before k less = get_or_append_left keys (key ∷ []) key k less

    others : eq q key ≡ false → (o : Option ℕ) → position (eq q) keys ≡ o → position (eq q) (keys ++ key ∷ []) ≡ o
    others apart (Some i) at =
        let first = position-Some (eq q) keys i key at in
        position-first (eq q) (keys ++ key ∷ []) i key (omega (arith, first.0, long))
        (λ k less. ap (eq q) (before k (omega (arith, less, first.0))) ∙ first.2 k less)
        (ap (eq q) (before i first.0) ∙ first.1)
    others apart None none =
        position-none (eq q) (keys ++ key ∷ []) (All-push (λ x. eq q x ≡ false) keys key (none_passes (eq q) keys none) apart)

    by : (b : Bool) → eq key q ≡ b → position (eq q) (keys ++ key ∷ []) ≡ cond b (Some (length keys)) (position (eq q) keys)
    by true same =
        let back : eq q key ≡ true = laws.symm q key ∙ same in
        let none : list_any (eq q) keys ≡ false = list_any_congr laws q key keys back ∙ absent in
        position-first (eq q) (keys ++ key ∷ []) (length keys) key (omega (arith, long))
        (λ k less. ap (eq q) (before k less) ∙ none_at (eq q) keys k key none less)
        (ap (eq q) (get_or-append_seam keys key [] key) ∙ back)
    by false other = others (laws.symm q key ∙ other) (position (eq q) keys) refl
