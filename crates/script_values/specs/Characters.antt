-- The characters of a text, and what is said of them.
use Rattle.std.specs.Prelude.{ℕ, suc, ◌*◌, nat_eq, nat_lt, pos, Bool, true, ◌&&◌, ◌||◌, List, [], ◌∷◌, ◌++◌}
use Rattle.std.specs.Prelude.{length, if◌then◌else◌}
use Rattle.std.specs.List.{concat, starts_with}
use Rattle.cube_fixed.specs.declared.value.Value.{Value}
use Rattle.cube_fixed.specs.Arithmetic.{fit, sum_of}
use Rattle.cube_fixed.specs.Range.{unit}
use Rattle.rule_laws.specs.declared.operation.Rel.TheVariants.{AtMost, Less}
use Rattle.rule_laws.specs.Operation.{comparison_of}

-- a count as a number of whole units, which is Over where it is too large for one
unfoldable pub units_of : ℕ → Value
units_of count = fit (pos (count * unit))

-- whether a byte begins a character of UTF-8 wherever it stands: the bytes from 128 to 191 go on with one
abbrev pub begins_character : ℕ → Bool
begins_character byte = nat_lt byte 128 || nat_lt 191 byte

-- whether the first of these bytes begins a character
abbrev pub is_begun : List ℕ → Bool
is_begun [] = true
is_begun (byte ∷ bytes) = begins_character byte

-- a byte before these characters is one of its own, or belongs to the first of them
abbrev pub before_characters : ℕ → List (List ℕ) → List (List ℕ)
before_characters byte [] = (byte ∷ []) ∷ []
before_characters byte (character ∷ others) =
    if is_begun character then (byte ∷ []) ∷ character ∷ others else (byte ∷ character) ∷ others

-- the characters of a text, each as its bytes: a text's first byte begins one, whatever it is
abbrev pub characters : List ℕ → List (List ℕ)
characters [] = []
characters (byte ∷ bytes) = before_characters byte (characters bytes)

-- how many characters a text has
unfoldable pub character_count : List ℕ → ℕ
character_count text = length (characters text)

-- the place of the first of these characters from which on part stands, where they are counted from a place on; 0 where
-- it stands nowhere
abbrev pub first_place : List ℕ → ℕ → List (List ℕ) → ℕ
first_place part place [] = 0
first_place part place (character ∷ others) =
    if starts_with nat_eq (concat (character ∷ others)) part then place else first_place part (suc place) others

-- the first place in a text, from 1, where part stands; 0 where it stands nowhere. An empty part stands at 1
unfoldable pub place_in : List ℕ → List ℕ → ℕ
place_in [] text = 1
place_in (byte ∷ bytes) text = first_place (byte ∷ bytes) 1 (characters text)

-- those of these characters whose places are chosen, where they are counted from a place on
abbrev pub at_places : (ℕ → Bool) → ℕ → List (List ℕ) → List ℕ
at_places is_chosen place [] = []
at_places is_chosen place (character ∷ others) =
    (if is_chosen place then character else []) ++ at_places is_chosen (suc place) others

-- whether a place is at start or behind it, and before the one that is count behind start
unfoldable pub is_within : Value → Value → ℕ → Bool
is_within start count place =
    comparison_of AtMost start (units_of place) && comparison_of Less (units_of place) (sum_of start count)

-- the characters of a text whose places, from 1, are within start and count
unfoldable pub cut_out : List ℕ → Value → Value → List ℕ
cut_out text start count = at_places (is_within start count) 1 (characters text)
