-- Why a dimension has no table of coefficients.
use Rattle.std.specs.Prelude.{ℕ, ℤ, ◌+◌, ◌==◌, nat_lt, List, [], ◌∷◌, length, filter, take, sum_by, slice_index, Option}
use Rattle.std.specs.Prelude.{Some, None, if◌then◌else◌}
use Rattle.std.specs.List.{range_with_len, flat_map}
use Rattle.dim_core.specs.Outline.{Outline}
use Rattle.dim_weights.specs.declared.fault.WeightFault.{WeightFault}
use Rattle.dim_weights.specs.declared.fault.WeightFault.TheVariants.{CoefficientTooLarge, TooManyPairs}
use Rattle.dim_core.specs.Outline.{level}
use Rattle.dim_weights.specs.Table.{leaves_of, greatest_in}
use Rattle.dim_weights.specs.Coefficients.{most_coefficient, most_pairs}

-- the elements of a level, by index
abbrev pub of_level : Outline → ℕ → List ℕ
of_level d n = filter (λ element. level d element == n) (range_with_len 0 (length d.elements))

-- all elements by level, and those of one level by index
abbrev pub by_level : Outline → List ℕ
by_level d = flat_map (of_level d) (range_with_len 0 (length d.elements))

-- how many pairs these elements have with their leaves
abbrev pub pair_count : Outline → List ℕ → ℕ
pair_count d elements = sum_by (λ element. length (leaves_of d element)) elements

-- what is wrong with an element of these leaves, where so many pairs are up to and including it: it has a coefficient
-- above a billion in size, or else the pairs are more than four million
abbrev pub fault_of : ℕ → List (ℕ × ℤ) → ℕ → Option WeightFault
fault_of element leaves count =
    if nat_lt most_coefficient (greatest_in leaves) then Some (CoefficientTooLarge element)
    else if nat_lt most_pairs count then Some (TooManyPairs count)
    else None

-- what is wrong at this place of a list of elements
abbrev pub fault_at : Outline → List ℕ → ℕ → Option WeightFault
fault_at d elements place =
    let element = slice_index elements place in
    fault_of element (leaves_of d element) (pair_count d (take (place + 1) elements))

abbrev pub first_of_two : Option WeightFault → Option WeightFault → Option WeightFault
first_of_two (Some fault) other = Some fault
first_of_two None other = other

-- the fault at the first of these places that has one
abbrev pub first_fault : (ℕ → Option WeightFault) → List ℕ → Option WeightFault
first_fault at [] = None
first_fault at (place ∷ places) = first_of_two (at place) (first_fault at places)

-- the refusal is what is wrong first, as the elements are taken by level and then by index
abbrev pub refusal_of : Outline → Option WeightFault
refusal_of d = first_fault (fault_at d (by_level d)) (range_with_len 0 (length d.elements))
