-- What is found in a list or an option.
use Rattle.std.proofs.Common.{◌≡◌, ◌<◌, ℕ, zero, suc, Bool, true, false, List, [], ◌∷◌, ◌++◌, length, Option, Some, None, option_map, option_and_then, slice_get, All, Result, Ok, Err, refl, sym, subst, arith}

pub none_some : {X : Type 0} {x : X} → None ≡ Some x → ⊥
none_some is = cc

pub some_same : {X : Type 0} {x y : X} → Some x ≡ Some y → x ≡ y
some_same is = cc

pub there : {X : Type 0} (xs : List X) (i : ℕ) → i < length xs → (x : X) × (slice_get xs i ≡ Some x)
there [] i low = absurd (omega (arith, low))
there (x ∷ xs) zero low = (x, refl)
there (x ∷ xs) (suc i) low = there xs i (omega (arith, low))

-- an item that is found is one of which all that holds of the items holds
pub found_holds : {X : Type 0} (P : X → Type 0) (xs : List X) (i : ℕ) (x : X) → All P xs → slice_get xs i ≡ Some x → P x
found_holds P [] i x all is = absurd (cc is)
found_holds P (y ∷ xs) zero x all is = let same : y ≡ x = cc in subst P same (all 0 y (omega arith))
found_holds P (y ∷ xs) (suc i) x all is = found_holds P xs i x (λ k d low. all (suc k) d (omega (arith, low))) is

pub and_then_found : {A B : Type 0} (f : A → Option B) (o : Option A) (b : B) → option_and_then f o ≡ Some b → (a : A) × (o ≡ Some a) × (f a ≡ Some b)
and_then_found f None b is = absurd (cc is)
and_then_found f (Some a) b is = (a, refl, is)

pub mapped : {A B : Type 0} (f : A → B) (o : Option A) (b : B) → option_map f o ≡ Some b → (a : A) × (o ≡ Some a) × (f a ≡ b)
mapped f None b is = absurd (cc is)
mapped f (Some a) b is = (a, refl, cc is)

pub none_found : {A : Type 0} (o : Option A) → ((a : A) → o ≡ Some a → ⊥) → o ≡ None
none_found None other = refl
none_found (Some a) other = absurd (other a refl)

-- two tests that hold together are the same
pub same_truth : (a b : Bool) → (a ≡ true → b ≡ true) → (b ≡ true → a ≡ true) → a ≡ b
same_truth true b there back = sym (there refl)
same_truth false true there back = back refl
same_truth false false there back = refl

-- what is known so far, before what is still to come
abbrev pub behind : {E A : Type 0} → List A → Result (List A) E → Result (List A) E
behind front (Ok rest) = Ok (front ++ rest)
behind front (Err e) = Err e
