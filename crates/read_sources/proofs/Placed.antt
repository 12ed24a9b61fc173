-- Lists by their places.
use Rattle.std.proofs.Common.{◌≡◌, refl, ap, ◌∙◌, arith, ℕ, zero, suc, ◌+◌, ◌<◌, ◌⊎◌, inl, inr, Some, List, [], ◌∷◌, ◌++◌, length, map, take, All, option_map}
use Rattle.std.specs.Prelude.{slice_get}
use Rattle.std.proofs.lemmas.Option.{slice_get-map, slice_get-get_or}

pub get-first : {X : Type 0} (xs ys : List X) (k : ℕ) (x : X) → slice_get xs k ≡ Some x → slice_get (xs ++ ys) k ≡ Some x
get-first [] ys k x is = absurd (cc)
get-first (y ∷ xs) ys zero x is = is
get-first (y ∷ xs) ys (suc k) x is = get-first xs ys k x is

pub get-second : {X : Type 0} (xs ys : List X) (j k : ℕ) (x : X) → j ≡ length xs + k → slice_get ys k ≡ Some x → slice_get (xs ++ ys) j ≡ Some x
get-second [] ys j k x at is = let same : j ≡ k = omega (arith, at) in ap (slice_get ys) same ∙ is
get-second (y ∷ xs) ys zero k x at is = absurd (omega (arith, at))
get-second (y ∷ xs) ys (suc j) k x at is = get-second xs ys j k x (omega (arith, at)) is

pub get-either : {X : Type 0} (xs ys : List X) (j : ℕ) (x : X) → slice_get (xs ++ ys) j ≡ Some x
    → (slice_get xs j ≡ Some x) ⊎ ((k : ℕ) × (j ≡ length xs + k) × (slice_get ys k ≡ Some x))
get-either [] ys j x is = inr (j, omega arith, is)
get-either (y ∷ xs) ys zero x is = inl is
get-either (y ∷ xs) ys (suc j) x is = elim (get-either xs ys j x is) [
  | inl first ↦ inl first
  | inr (k, at, second) ↦ inr (k, omega (arith, at), second)
]

pub get-mapped : {X Y : Type 0} (f : X → Y) (xs : List X) (k : ℕ) (x : X) → slice_get xs k ≡ Some x → slice_get (map f xs) k ≡ Some (f x)
get-mapped f xs k x is = slice_get-map f xs k ∙ ap (option_map f) is

pub mapped-at : {X Y : Type 0} (f : X → Y) (xs : List X) (k : ℕ) (y : Y) → slice_get (map f xs) k ≡ Some y → (x : X) × (slice_get xs k ≡ Some x) × (f x ≡ y)
mapped-at f [] k y is = absurd (cc)
mapped-at f (x ∷ xs) zero y is = (x, refl, cc)
mapped-at f (x ∷ xs) (suc k) y is = mapped-at f xs k y is

-- what holds of each by its place holds of all, and of all of the first
pub all-of : {X : Type 0} (P : X → Type 0) (xs : List X) → ((k : ℕ) (x : X) → slice_get xs k ≡ Some x → P x) → All P xs
all-of P xs each k d low = each k _ (slice_get-get_or xs k d low)

pub all-before : {X : Type 0} (P : X → Type 0) (n : ℕ) (xs : List X) → ((k : ℕ) (x : X) → k < n → slice_get xs k ≡ Some x → P x) → All P (take n xs)
all-before P zero xs each k d low = absurd (omega (arith, low))
all-before P (suc n) [] each k d low = absurd (omega (arith, low))
all-before P (suc n) (x ∷ xs) each zero d low = each 0 x (omega arith) refl
all-before P (suc n) (x ∷ xs) each (suc k) d low = all-before P n xs (λ j y less at. each (suc j) y (omega (arith, less)) at) k d (omega (arith, low))
