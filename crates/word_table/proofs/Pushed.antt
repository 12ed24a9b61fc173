-- The first place of a word, before and after one more.
use Rattle.std.proofs.Common.{◌≡◌, ◌<◌, ◌+◌, ℕ, List, [], ◌∷◌, ◌++◌, length, get_or, Bool, true, false, cond, Option, Some, None, position, refl, ap, ◌∙◌, arith, length-append}
use Rattle.std.proofs.lemmas.List.{get_or_append_left}
use Rattle.std.proofs.lemmas.List.Elements.{All-push}
use Rattle.std.proofs.lemmas.List.Quantifiers.{position-Some}
use Rattle.std.proofs.Math.Seq.{get_or-append_seam}
use Rattle.lists.proofs.Places.{none_passes, position-none, position-first}

-- what is found, or else this
abbrev pub or_else : Option ℕ → Option ℕ → Option ℕ
or_else (Some i) other = Some i
or_else None other = other

pub or_none : (o : Option ℕ) → or_else o None ≡ o
or_none (Some i) = refl
or_none None = refl

module _ {X : Type 0} (p : X → Bool) (xs : List X) (x : X) where
  long : length (xs ++ x ∷ []) ≡ length xs + 1
  long = length-append xs (x ∷ [])

  before : (k : ℕ) → k < length xs → get_or (xs ++ x ∷ []) k x ≡ get_or xs k x
  before k less = get_or_append_left xs (x ∷ []) x k less

  last : get_or (xs ++ x ∷ []) (length xs) x ≡ x
  last = get_or-append_seam xs x [] x

  by_last : (b : Bool) → p x ≡ b → position p xs ≡ None → position p (xs ++ x ∷ []) ≡ cond b (Some (length xs)) None
  by_last true passes none =
      position-first p (xs ++ x ∷ []) (length xs) x (omega (arith, long))
      (λ k less. ap p (before k less) ∙ none_passes p xs none k x less)
      (ap p last ∙ passes)
  by_last false fails none = position-none p (xs ++ x ∷ []) (All-push (λ y. p y ≡ false) xs x (none_passes p xs none) fails)

  by_first : (o : Option ℕ) → position p xs ≡ o → position p (xs ++ x ∷ []) ≡ or_else o (cond (p x) (Some (length xs)) None)
  by_first (Some i) at =
      let first = position-Some p xs i x at in
      position-first p (xs ++ x ∷ []) i x (omega (arith, first.0, long))
      (λ k less. ap p (before k (omega (arith, less, first.0))) ∙ first.2 k less)
      (ap p (before i first.0) ∙ first.1)
  by_first None none = by_last (p x) refl none

  -- the place of the first that passes stays, and where none passed before, the last may
  pub position-push : position p (xs ++ x ∷ []) ≡ or_else (position p xs) (cond (p x) (Some (length xs)) None)
  position-push = by_first (position p xs) refl
