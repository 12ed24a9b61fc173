-- Going down from elements to their components: loops, and orders of elements without one.
use Rattle.std.specs.Prelude.{◌≡◌, ℕ, zero, suc, ◌<◌, ◌==◌, ◌||◌, Bool, true, false, ℤ, List, [], length, take, All}
use Rattle.std.specs.Prelude.{Option, position, nat_eq, slice_index_or}
use Rattle.std.specs.List.{list_any, list_all, range_with_len, IsDistinct}
use Rattle.dim_order.specs.Members.{is_among}

-- the components of an element, each with its weight; none past the end
abbrev pub parts_of : List (List (ℕ × ℤ)) → ℕ → List (ℕ × ℤ)
parts_of lists element = slice_index_or lists element []

-- each component of each element is an element
abbrev pub ArePartsWithin : List (List (ℕ × ℤ)) → Type 0
ArePartsWithin lists = All (λ parts. All (λ part. part.0 < length lists) parts) lists

-- whether `to` is reached from `from` by going down at least one step, and at most this many
abbrev pub is_reached : List (List (ℕ × ℤ)) → ℕ → ℕ → ℕ → Bool
is_reached lists zero from to = false
is_reached lists (suc steps) from to = list_any
    (λ part. (part.0 == to) || is_reached lists steps part.0 to) (parts_of lists from)

-- whether an element is reached from itself; a shortest loop has no more steps than there are elements
abbrev pub lies_on_loop : List (List (ℕ × ℤ)) → ℕ → Bool
lies_on_loop lists element = is_reached lists (length lists) element element

-- the element of least index that lies on a loop
abbrev pub first_on_loop : List (List (ℕ × ℤ)) → Option ℕ
first_on_loop lists = position (lies_on_loop lists) (range_with_len 0 (length lists))

-- an order of all elements in which each component comes before what it is a component of
pub record IsOrder (lists : List (List (ℕ × ℤ))) (order : List ℕ) : Type 0 where
  pub whole : length order ≡ length lists
  pub distinct : IsDistinct nat_eq order
  pub within : (e : ℕ) → is_among order e ≡ true → e < length lists
  pub each : (e : ℕ) → e < length lists → is_among order e ≡ true
  pub earlier : (i : ℕ) → i < length order
      → list_all (λ part. is_among (take i order) part.0) (parts_of lists (slice_index_or order i 0)) ≡ true
