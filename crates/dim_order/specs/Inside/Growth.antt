-- A list of elements that grows by a rule until no element can join.
use Rattle.std.specs.Prelude.{◌≡◌, ◌⊎◌, ℕ, ◌<◌, ◌==◌, ◌||◌, Bool, true, false, ℤ, List, length, take, nat_eq}
use Rattle.std.specs.Prelude.{slice_index_or}
use Rattle.std.specs.List.{list_any, list_all, IsDistinct}
use Rattle.dim_order.specs.declared.joining.Joining.{Joining}
use Rattle.dim_order.specs.declared.joining.Joining.TheVariants.{AfterAllParts, WhenLeadingTo}
use Rattle.dim_order.specs.Members.{is_among}
use Rattle.dim_order.specs.Loops.{parts_of}

-- whether an element with these components may join those that are inside
abbrev pub is_ready : Joining → (ℕ → Bool) → List (ℕ × ℤ) → Bool
is_ready AfterAllParts inside parts = list_all (λ part. inside part.0) parts
is_ready (WhenLeadingTo target) inside parts = list_any (λ part. (part.0 == target) || inside part.0) parts

-- each element of the list joined once, when those before it made it ready
pub record IsGrown (joining : Joining) (lists : List (List (ℕ × ℤ))) (list : List ℕ) : Type 0 where
  pub distinct : IsDistinct nat_eq list
  pub within : (e : ℕ) → is_among list e ≡ true → e < length lists
  pub ready : (i : ℕ) → i < length list
      → is_ready joining (is_among (take i list)) (parts_of lists (slice_index_or list i 0)) ≡ true

-- the element is in the list, or can't join it
abbrev pub IsSettled : Joining → List (List (ℕ × ℤ)) → List ℕ → ℕ → Type 0
IsSettled joining lists list e = (is_among list e ≡ true)
    ⊎ (is_ready joining (is_among list) (parts_of lists e) ≡ false)

-- every element is
abbrev pub AreSettled : Joining → List (List (ℕ × ℤ)) → List ℕ → Type 0
AreSettled joining lists list = (e : ℕ) → e < length lists → IsSettled joining lists list e
