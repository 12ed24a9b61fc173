-- The text of a number: what it says, and how it is written.
use Rattle.std.specs.Prelude.{ℕ, zero, suc, ◌+◌, ◌-◌, ◌*◌, ◌/◌, ◌%◌, ◌^◌, ◌==◌, ℤ, pos, neg_ℤ, unsigned_abs, Bool, true}
use Rattle.std.specs.Prelude.{false, not, ◌&&◌, if◌then◌else◌, List, [], ◌∷◌, ◌++◌, length, take, drop, Option, Some}
use Rattle.std.specs.Prelude.{None, Result, Ok, Err, codes, decimal}
use Rattle.std.specs.Int.{is_negative}
use Rattle.std.specs.Char.{is_ascii_digit}
use Rattle.std.specs.List.{before_first, after_first, list_all, list_any}
use Rattle.std.specs.Str.Parse.{digits_value, starts_with_minus}
use Rattle.cube_fixed.specs.declared.value.Value.{Value}
use Rattle.cube_fixed.specs.declared.value.Value.TheVariants.{Num, Over}
use Rattle.cube_fixed.specs.declared.reading.NumberFault.{NumberFault}
use Rattle.cube_fixed.specs.declared.reading.NumberFault.TheVariants.{NotANumber, TooLarge}
use Rattle.cube_fixed.specs.Range.{unit, is_in_range}
use Rattle.cube_fixed.specs.Rounding.{nearest}
use Rattle.cube_fixed.specs.Places.{rounded_at, decimals_for}

-- ---- reading

-- the point, `.`
abbrev pub decimal_point : ℕ
decimal_point = 46

-- the byte that stands between units and decimals
abbrev pub is_decimal_sign : ℕ → ℕ → Bool
is_decimal_sign decimal c = c == decimal

-- one or more decimal digits
abbrev pub is_digits : List ℕ → Bool
is_digits text = not (length text == 0) && list_all is_ascii_digit text

-- of an unsigned text: digits, or digits, a decimal sign and digits
abbrev pub is_decimal : ℕ → List ℕ → Bool
is_decimal decimal text =
    if list_any (is_decimal_sign decimal) text
    then is_digits (before_first (is_decimal_sign decimal) text)
    && is_digits (after_first (is_decimal_sign decimal) text)
    else is_digits text

-- how many millionths the decimals are, to the nearest; a half goes up
abbrev pub decimals_value : List ℕ → ℕ
decimals_value decimals = nearest (digits_value 10 decimals * unit) (10 ^ length decimals)

-- how many millionths such a text is
abbrev pub decimal_value : ℕ → List ℕ → ℕ
decimal_value decimal text =
    digits_value 10 (before_first (is_decimal_sign decimal) text) * unit
    + decimals_value (after_first (is_decimal_sign decimal) text)

-- the number of this size
abbrev pub signed : Bool → ℕ → ℤ
signed negative size = if negative then neg_ℤ (pos size) else pos size

-- the number that an unsigned text says under this sign
abbrev pub number_after_sign : ℕ → Bool → List ℕ → Option ℤ
number_after_sign decimal negative text =
    if is_decimal decimal text then Some (signed negative (decimal_value decimal text)) else None

-- the millionths that a text says: an optional `-`, one or more digits, and optionally the decimal sign and one or more
-- digits; None for any other text
unfoldable pub number_with : ℕ → List ℕ → Option ℤ
number_with decimal text =
    if starts_with_minus text then number_after_sign decimal true (drop 1 text)
    else number_after_sign decimal false text

-- the same with a point for the decimal sign
abbrev pub number_of : List ℕ → Option ℤ
number_of = number_with decimal_point

-- what reading answers: the range is tested after rounding
abbrev pub reading_of : Option ℤ → Result ℤ NumberFault
reading_of None = Err NotANumber
reading_of (Some z) = if is_in_range z then Ok z else Err TooLarge

-- ---- writing

-- n in k digits, with zeros in front
abbrev pub digits_in : ℕ → ℕ → List ℕ
digits_in zero n = []
digits_in (suc k) n = (48 + n / 10 ^ k) ∷ digits_in k (n % 10 ^ k)

-- a digit before the digits that are left of the rest, where a zero with nothing after it goes too
abbrev pub onto_trimmed : ℕ → List ℕ → List ℕ
onto_trimmed c [] = if c == 48 then [] else c ∷ []
onto_trimmed c (d ∷ ds) = c ∷ d ∷ ds

-- the digits without the zeros at their end
abbrev pub without_zeros_at_end : List ℕ → List ℕ
without_zeros_at_end [] = []
without_zeros_at_end (c ∷ cs) = onto_trimmed c (without_zeros_at_end cs)

-- nothing for 0 millionths, else the point and the six decimals without the zeros at their end
unfoldable pub fraction_text : ℕ → List ℕ
fraction_text zero = []
fraction_text (suc n) = 46 ∷ without_zeros_at_end (digits_in 6 (suc n))

-- `-` where the number is negative, and the whole units
abbrev pub units_text : ℤ → List ℕ
units_text z = (if is_negative z then codes "-" else []) ++ decimal (unsigned_abs z / unit)

-- the text of a value: its units, and the fraction
unfoldable pub printed : Value → List ℕ
printed (Num z) = units_text z ++ fraction_text (unsigned_abs z % unit)
printed Over = codes "#OVER"

-- ---- writing so many decimals

-- nothing for no decimals, else the point and so many of the six
abbrev pub decimals_text : ℕ → ℕ → List ℕ
decimals_text zero n = []
decimals_text (suc k) n = 46 ∷ take (suc k) (digits_in 6 n)

-- the text of a value with so many decimals, those behind them cut off
unfoldable pub printed_in : ℕ → Value → List ℕ
printed_in decimals (Num z) = units_text z ++ decimals_text decimals (unsigned_abs z % unit)
printed_in decimals Over = codes "#OVER"

-- the text of a value, rounded to so many decimals and written with them
abbrev pub fixed_text : Value → Value → List ℕ
fixed_text a n = printed_in (decimals_for n) (rounded_at (6 - decimals_for n) a)
