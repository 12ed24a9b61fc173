-- What the rest of a text begins with, for the functions that find it.
use Rattle.std.specs.Prelude.{◌≡◌, ◌≢◌, ℕ, ◌+◌, ◌≤◌, ◌⊎◌, IsTrue, not, List, [], ◌∷◌, ◌++◌, length, take, drop}
use Rattle.std.specs.Prelude.{Option, Some, None, Result, Ok, Err, Contains}
use Rattle.std.specs.Char.{is_ascii_digit}
use Rattle.std.specs.List.{list_all}
use Rattle.cube_lex.specs.Bytes.{Begins, is_quote, is_plain}
use Rattle.cube_lex.specs.Fault.{Stops}
use Rattle.cube_lex.specs.Parts.{IsPart, IsDigits, IsLongest, signs}
use Rattle.cube_lex.specs.Quoted.{doubled}
use Rattle.cube_lex.specs.declared.fault.LexFault.{LexFault}
use Rattle.cube_lex.specs.declared.front.Front.{Front}
use Rattle.cube_lex.specs.declared.quoted.QuoteEnd.{QuoteEnd}
use Rattle.cube_lex.specs.declared.quoted.QuoteEnd.TheVariants.{Closed, Forbidden, Open}

-- the rest, at this offset, begins with this part; or with none, for this cause
abbrev pub IsFront : List ℕ → ℕ → Result Front LexFault → Type 0
IsFront rest at (Ok front) =
    (rest ≡ front.bytes.now ++ front.after.now) × IsPart front.kind front.bytes.now front.after.now
    × (front.bytes.now ≢ [])
IsFront rest at (Err fault) = Stops at rest (Some fault)

-- the first bytes up to this place may stand in a quoted text, each quote doubled
abbrev pub IsInside : List ℕ → ℕ → Type 0
IsInside bytes place =
    (inside : List ℕ) × IsTrue (list_all is_plain inside) × (take place bytes ≡ doubled inside) × (place ≤ length bytes)

-- how a quoted text goes on behind its first quote
abbrev pub EndsQuote : List ℕ → QuoteEnd → Type 0
EndsQuote bytes (Closed place) =
    IsInside bytes place × Begins is_quote (drop place bytes) × ¬ Begins is_quote (drop (place + 1) bytes)
EndsQuote bytes (Forbidden place) = IsInside bytes place × Begins (λ b. not (is_plain b)) (drop place bytes)
EndsQuote bytes Open = IsInside bytes (length bytes)

-- the longest sign that the bytes begin with has this length; or they begin with none
abbrev pub IsSignLen : List ℕ → Option ℕ → Type 0
IsSignLen bytes (Some len) = (len ≤ length bytes) × IsLongest (Contains signs) (take len bytes) (drop len bytes)
IsSignLen bytes None = (sign after : List ℕ) → Contains signs sign → bytes ≡ sign ++ after → ⊥

-- a point and digits
abbrev pub BeginsFraction : List ℕ → Type 0
BeginsFraction bytes = (fraction after : List ℕ) × IsDigits fraction × (bytes ≡ 46 ∷ fraction ++ after)

-- the length of the point and all the digits behind it with which the bytes begin, or 0
abbrev pub IsFractionLen : List ℕ → ℕ → Type 0
IsFractionLen bytes len =
    ((len ≡ 0) × ¬ BeginsFraction bytes)
    ⊎ ((fraction after : List ℕ) × IsDigits fraction × (bytes ≡ 46 ∷ fraction ++ after)
    × ¬ Begins is_ascii_digit after × (len ≡ 1 + length fraction))
