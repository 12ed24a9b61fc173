-- The words that the program is called with.
use Rattle.std.specs.Prelude.{◌≡◌, ◌⊎◌, ℕ, ◌≤◌, List, [], ◌∷◌, ◌++◌, length, map, Bool, false, not, ◌==◌, IsTrue}
use Rattle.std.specs.Prelude.{String, codes, string_bytes}
use Rattle.std.specs.Char.{is_ascii_digit}
use Rattle.std.specs.List.{list_all}
use Rattle.std.specs.Str.Parse.{digits_value}
use Rattle.std.specs.declared.alloc.Global.{Global}
use Rattle.cube_words.specs.declared.plan.Plan as declared
use Rattle.cube_words.specs.declared.plan.Plan.TheVariants as plans

-- the bytes of each word
abbrev pub texts_of : List (String Global) → List (List ℕ)
texts_of words = map string_bytes words

-- the byte of `-`
abbrev pub minus : ℕ
minus = 45

-- a word that names a file isn't empty and doesn't begin with `-`
abbrev pub names_a_file : List ℕ → Bool
names_a_file [] = false
names_a_file (c ∷ _) = not (c == minus)

-- the most users of one run, the most records of a sample, and the most digits of their number
abbrev pub most_users : ℕ
most_users = 16

abbrev pub most_records : ℕ
most_records = 100000

abbrev pub most_digits : ℕ
most_digits = 6

-- what the words ask for: to run these users' commands on the model, each by the name of its file; to check the model;
-- to check the model and these users' files, and explain a refusal; to print the feeders that are found for the model;
-- or to run a sample of so many records and sum it up
pub data Plan : Type 0 where
  Run : List ℕ → List (List ℕ) → Plan
  Check : List ℕ → Plan
  Explain : List ℕ → List (List ℕ) → Plan
  Feeders : List ℕ → Plan
  Sample : ℕ → Plan

-- the words are MODEL and 1 to 16 users
pub record IsRun (words : List (List ℕ)) (model : List ℕ) (users : List (List ℕ)) : Type 0 where
  pub all : words ≡ model ∷ users
  pub some : 1 ≤ length users
  pub few : length users ≤ most_users
  pub files : IsTrue (list_all names_a_file words)

-- the words are the flag and MODEL, in either order
pub record IsFlagged (flag : List ℕ) (words : List (List ℕ)) (model : List ℕ) : Type 0 where
  pub all : (words ≡ flag ∷ model ∷ []) ⊎ (words ≡ model ∷ flag ∷ [])
  pub file : IsTrue (names_a_file model)

abbrev pub IsCheck : List (List ℕ) → List ℕ → Type 0
IsCheck words model = IsFlagged (codes "--check") words model

abbrev pub IsFeeders : List (List ℕ) → List ℕ → Type 0
IsFeeders words model = IsFlagged (codes "--feeders") words model

-- the words are the flag and MODEL, in either order, or the flag, MODEL and up to 16 users
pub record IsExplain (words : List (List ℕ)) (model : List ℕ) (users : List (List ℕ)) : Type 0 where
  pub all : (words ≡ codes "--explain" ∷ model ∷ users) ⊎ ((users ≡ []) × (words ≡ model ∷ codes "--explain" ∷ []))
  pub few : length users ≤ most_users
  pub files : IsTrue (list_all names_a_file (model ∷ users))

-- digits, with a value from 1 to the most: so there is a digit
pub record IsSize (digits : List ℕ) (size : ℕ) : Type 0 where
  pub digits_only : IsTrue (list_all is_ascii_digit digits)
  pub few : length digits ≤ most_digits
  pub value : digits_value 10 digits ≡ size
  pub least : 1 ≤ size
  pub most : size ≤ most_records

-- the words are `--sample` and a size, as two words or as one with `=` between
abbrev pub IsSample : List (List ℕ) → ℕ → Type 0
IsSample words size = (digits : List ℕ) × IsSize digits size
    × ((words ≡ codes "--sample" ∷ digits ∷ []) ⊎ (words ≡ (codes "--sample=" ++ digits) ∷ []))

abbrev pub IsPlan : List (List ℕ) → Plan → Type 0
IsPlan words (Run model users) = IsRun words model users
IsPlan words (Check model) = IsCheck words model
IsPlan words (Explain model users) = IsExplain words model users
IsPlan words (Feeders model) = IsFeeders words model
IsPlan words (Sample size) = IsSample words size

-- a plan of the code, as what the words ask for
abbrev pub asked : declared.Plan → Plan
asked (plans.Run model users) = Run model.now (texts_of users.now)
asked (plans.Check model) = Check model.now
asked (plans.Explain model users) = Explain model.now (texts_of users.now)
asked (plans.Feeders model) = Feeders model.now
asked (plans.Sample size) = Sample size
