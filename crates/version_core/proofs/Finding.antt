-- What a look-up found: in an option, in a list after a write, and among the users by number.
use Rattle.std.proofs.Common.{◌≡◌, ◌≢◌, ℕ, ◌+◌, zero, suc, List, [], ◌∷◌, length, true, false, Option, Some, None, Result, Ok, Err, OnErr, Bor, refl, ap, sym, arith, ◌⊎◌, inl, inr}
use Rattle.std.specs.List.{slice_get}
use Rattle.std.specs.Option.{option_copied, is_some}
use Rattle.std.specs.Prelude.{slice_set, replicate}
use Rattle.std.proofs.lemmas.List.{length-set}
use Rattle.std.proofs.lemmas.Bool.{false≢true}
use Rattle.lists.proofs.Found.{none_some, some_same}
use Rattle.version_core.specs.CoreState.{user_at, set_user}

-- what stands in a list after a write: what was written, or what stood there elsewhere
pub get_set : {A : Type 0} (xs : List A) (i : ℕ) (y : A) (j : ℕ) (x : A) → slice_get (slice_set xs i y) j ≡ Some x
    → ((j ≡ i) × (x ≡ y)) ⊎ ((j ≢ i) × (slice_get xs j ≡ Some x))
get_set [] i y j x is = absurd (none_some is)
get_set (z ∷ xs) zero y zero x is = inl (refl, sym (some_same is))
get_set (z ∷ xs) zero y (suc j) x is = inr (λ e. absurd (omega arith), is)
get_set (z ∷ xs) (suc i) y zero x is = inr (λ e. absurd (omega arith), is)
get_set (z ∷ xs) (suc i) y (suc j) x is =
    elim (get_set xs i y j x is) [ inl here ↦ inl (ap suc here.0, here.1) | inr there ↦ inr (λ e. there.0 (omega arith), there.1) ]

pub get_set_same : {A : Type 0} (xs : List A) (i : ℕ) (y x : A) → slice_get xs i ≡ Some x → slice_get (slice_set xs i y) i ≡ Some y
get_set_same [] i y x is = absurd (none_some is)
get_set_same (z ∷ xs) zero y x is = refl
get_set_same (z ∷ xs) (suc i) y x is = get_set_same xs i y x is

pub get_set_other : {A : Type 0} (xs : List A) (i : ℕ) (y : A) (j : ℕ) → j ≢ i → slice_get (slice_set xs i y) j ≡ slice_get xs j
get_set_other [] i y j other = refl
get_set_other (z ∷ xs) zero y zero other = absurd (other refl)
get_set_other (z ∷ xs) zero y (suc j) other = refl
get_set_other (z ∷ xs) (suc i) y zero other = refl
get_set_other (z ∷ xs) (suc i) y (suc j) other = get_set_other xs i y j (λ e. other (ap suc e))

pub get_replicate : {A : Type 0} (n : ℕ) (y : A) (i : ℕ) (x : A) → slice_get (replicate n y) i ≡ Some x → x ≡ y
get_replicate zero y i x is = absurd (none_some is)
get_replicate (suc n) y zero x is = sym (some_same is)
get_replicate (suc n) y (suc i) x is = get_replicate n y i x is

pub user_index : {U : Type 0} (users : List U) (number : ℕ) (user : U) → user_at users number ≡ Some user → (index : ℕ) × (number ≡ index + 1) × (slice_get users index ≡ Some user)
user_index users zero user is = absurd (none_some is)
user_index users (suc index) user is = (index, omega arith, is)

pub length-set_user : {U : Type 0} (users : List U) (number : ℕ) (user : U) → length (set_user users number user) ≡ length users
length-set_user users zero user = refl
length-set_user users (suc index) user = simp length-set

pub get_set_user : {U : Type 0} (users : List U) (number : ℕ) (user : U) (j : ℕ) (x : U) → slice_get (set_user users number user) j ≡ Some x
    → ((j + 1 ≡ number) × (x ≡ user)) ⊎ ((j + 1 ≢ number) × (slice_get users j ≡ Some x))
get_set_user users zero user j x is = inr (λ e. absurd (omega arith), is)
get_set_user users (suc index) user j x is =
    elim (get_set users index user j x is) [ inl here ↦ inl (omega (arith, here.0), here.1) | inr there ↦ inr (λ e. there.0 (omega arith), there.1) ]

pub user_set : {U : Type 0} (users : List U) (number : ℕ) (user : U) (other : ℕ) (x : U) → user_at (set_user users number user) other ≡ Some x
    → ((other ≡ number) × (x ≡ user)) ⊎ ((other ≢ number) × (user_at users other ≡ Some x))
user_set users zero user other x is = by_number other is
  where
    by_number : (n : ℕ) → user_at users n ≡ Some x → ((n ≡ zero) × (x ≡ user)) ⊎ ((n ≢ zero) × (user_at users n ≡ Some x))
    by_number zero found = absurd (none_some found)
    by_number (suc j) found = inr (λ e. absurd (omega arith), found)
user_set users (suc index) user zero x is = absurd (none_some is)
user_set users (suc index) user (suc j) x is =
    elim (get_set users index user j x is) [ inl here ↦ inl (ap suc here.0, here.1) | inr there ↦ inr (λ e. there.0 (omega arith), there.1) ]

pub some_from : {A : Type 0} (found : Option A) → is_some found ≡ true → (x : A) × (found ≡ Some x)
some_from None is = absurd (false≢true is)
some_from (Some x) is = (x, refl)

-- a look-up that answered has the value that it copies
pub copied_some : {A : Type 0} (found : Option (Bor A)) → is_some found ≡ true → (x : A) × (option_copied found ≡ Some x)
copied_some None is = absurd (false≢true is)
copied_some (Some x) is = (x.now, refl)

pub copied_none : {A : Type 0} (found : Option (Bor A)) → is_some found ≡ false → option_copied found ≡ None
copied_none None is = refl
copied_none (Some x) is = absurd (false≢true (sym is))

pub on_err : {A E : Type 0} {P : Type 0} (result : Result A E) → P → OnErr result P
on_err (Ok x) p = tt
on_err (Err e) p = p
