-- Lists of numbers, each below a size of its own, and the number of such a list: its place in the list of all of them.
use Rattle.std.specs.Prelude.{ℕ, ◌+◌, ◌*◌, Bool, true, false, ◌&&◌, nat_lt, List, [], ◌∷◌, map}
use Rattle.std.specs.List.{flat_map, range_with_len}

abbrev pub product : List ℕ → ℕ
product [] = 1
product (size ∷ sizes) = size * product sizes

-- whether there is one digit for each size, and each is below its size
abbrev pub are_digits : List ℕ → List ℕ → Bool
are_digits [] [] = true
are_digits [] (digit ∷ digits) = false
are_digits (size ∷ sizes) [] = false
are_digits (size ∷ sizes) (digit ∷ digits) = nat_lt digit size && are_digits sizes digits

-- all lists of digits for these sizes, in the order in which the last digit runs fastest
abbrev pub all_digits : List ℕ → List (List ℕ)
all_digits [] = [] ∷ []
all_digits (size ∷ sizes) = flat_map (λ digit. map (λ digits. digit
    ∷ digits) (all_digits sizes)) (range_with_len 0 size)

-- the number that the digits write: the last counts ones, and each counts as much as all combinations of those after it
abbrev pub number_of : List ℕ → List ℕ → ℕ
number_of [] digits = 0
number_of (size ∷ sizes) [] = 0
number_of (size ∷ sizes) (digit ∷ digits) = digit * product sizes + number_of sizes digits
