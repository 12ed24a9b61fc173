-- The records of a file, kept one after another.
use Rattle.std.proofs.Common.{◌≡◌, ◌≤◌, length, ℕ, zero, suc, ◌+◌, List, [], ◌∷◌, ◌++◌, drop, Option, Some, None, refl, sym, ◌∙◌, arith}
use Rattle.std.proofs.lemmas.List.{drop_all}
use Rattle.std.specs.List.{slice_get}
use Rattle.std.specs.Option.{option_to_list, IfNone}

pub one_gone : {X : Type 0} (k : ℕ) (xs : List X) → drop k xs ≡ option_to_list (slice_get xs k) ++ drop (k + 1) xs
one_gone k [] = drop_all k [] (omega arith) ∙ sym (drop_all (k + 1) [] (omega arith))
one_gone zero (x ∷ xs) = refl
one_gone (suc k) (x ∷ xs) = let next : suc k + 1 ≡ suc (k + 1) = omega arith in rw next (one_gone k xs)

pub all_gone : {X : Type 0} (k : ℕ) (xs : List X) → length xs ≤ k → drop k xs ≡ []
all_gone k xs past = drop_all k xs past

ends_there : {X : Type 0} (k : ℕ) (xs : List X) → None ≡ slice_get xs k → drop k xs ≡ []
ends_there k [] is = drop_all k [] (omega arith)
ends_there zero (x ∷ xs) is = absurd (cc is)
ends_there (suc k) (x ∷ xs) is = ends_there k xs is

pub past : {X : Type 0} (found : Option X) (k : ℕ) (xs : List X) → found ≡ slice_get xs k → IfNone found (drop k xs ≡ [])
past None k xs is = ends_there k xs is
past (Some x) k xs is = tt
