-- Ranks of elements that don't rise from an element to its components.
use Rattle.std.specs.Prelude.{◌≡◌, ℕ, ◌+◌, ◌<◌, Bool, true, ℤ, List, length, nat_lt, slice_index}
use Rattle.std.specs.List.{list_all}
use Rattle.dim_order.specs.Loops.{parts_of}

-- whether each of these components has a rank below a bound
abbrev pub are_below : List ℕ → ℕ → List (ℕ × ℤ) → Bool
are_below ranks bound parts = list_all (λ part. nat_lt (slice_index ranks part.0) bound) parts

-- no component of an element has a greater rank than the element
abbrev pub AreRanks : List (List (ℕ × ℤ)) → List ℕ → Type 0
AreRanks lists ranks = (element : ℕ) → element < length lists
    → are_below ranks (slice_index ranks element + 1) (parts_of lists element) ≡ true
