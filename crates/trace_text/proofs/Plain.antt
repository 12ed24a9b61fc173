-- What is printed in one line: numbers, values and fields.
use Rattle.std.proofs.Common.{◌≡◌, ℕ, ◌+◌, ◌/◌, ◌%◌, ◌^◌, ◌<◌, ◌≤◌, zero, suc, Bool, true, false, not, ◌==◌, ℤ, pos, negsuc, nat_lt, if◌then◌else◌, List, [], ◌∷◌, ◌++◌, codes, decimal, refl, ap, arith, unsigned_abs}
use Rattle.std.specs.Fmt.{digits, digits_onto, digit_glyph, signed_decimal}
use Rattle.std.specs.Int.{is_negative}
use Rattle.std.specs.List.{list_all, flat_map, join_with_byte, slice_split, onto_first}
use Rattle.std.proofs.lemmas.Bool.{and_parts, eqb-true}
use Rattle.cell_names.proofs.Plain.{lacks, lacks-append, lacks-cons}
use Rattle.cube_fixed.specs.declared.value.Value.{Value}
use Rattle.cube_fixed.specs.declared.value.Value.TheVariants.{Num, Over}
use Rattle.cube_fixed.specs.Range.{unit}
use Rattle.cube_fixed.specs.Text.{printed, fraction_text, without_zeros_at_end, onto_trimmed, digits_in}
use Rattle.dim_name.specs.Bytes.{newline, tab}

other_byte : (d c : ℕ) → c < d → not (d == c) ≡ true
other_byte d c less = by (d == c) refl
  where
    by : (b : Bool) → (d == c) ≡ b → not b ≡ true
    by true e = absurd (omega (arith, eqb-true d c e))
    by false e = refl

-- ---- digits

glyph_above : (d : ℕ) → 48 ≤ digit_glyph false d
glyph_above d = by (nat_lt d 10)
  where
    by : (b : Bool) → 48 ≤ (if b then 48 + d else 87 + d)
    by true = omega arith
    by false = omega arith

onto_lacks : (c k n : ℕ) (acc : List ℕ) → c < 48 → lacks c acc ≡ true → lacks c (digits_onto k 10 false n acc) ≡ true
onto_lacks c zero n acc low all = all
onto_lacks c (suc k) n acc low all = by (n / 10 == 0) more (onto_lacks c k (n / 10) (digit_glyph false (n % 10) ∷ acc) low more)
  where
    more : lacks c (digit_glyph false (n % 10) ∷ acc) ≡ true
    more = lacks-cons c (digit_glyph false (n % 10)) acc (other_byte (digit_glyph false (n % 10)) c (omega (arith, glyph_above (n % 10)))) all

    by : (b : Bool) → lacks c (digit_glyph false (n % 10) ∷ acc) ≡ true
        → lacks c (digits_onto k 10 false (n / 10) (digit_glyph false (n % 10) ∷ acc)) ≡ true
        → lacks c (if b then digit_glyph false (n % 10) ∷ acc else digits_onto k 10 false (n / 10) (digit_glyph false (n % 10) ∷ acc)) ≡ true
    by true here later = here
    by false here later = later

-- a number in digits has no byte below `0`
pub decimal_lacks : (c n : ℕ) → c < 48 → lacks c (decimal n) ≡ true
unfolding digits
decimal_lacks c n low = onto_lacks c 64 n [] low refl

pub signed_plain : (z : ℤ) → lacks newline (signed_decimal z) ≡ true
signed_plain (pos n) = decimal_lacks newline n (omega arith)
signed_plain (negsuc n) = lacks-append newline (codes "-") (decimal (suc n)) refl (decimal_lacks newline (suc n) (omega arith))

digits_in_lacks : (c k n : ℕ) → c < 48 → lacks c (digits_in k n) ≡ true
digits_in_lacks c zero n low = refl
digits_in_lacks c (suc k) n low =
    lacks-cons c (48 + n / 10 ^ k) (digits_in k (n % 10 ^ k)) (other_byte (48 + n / 10 ^ k) c (omega arith)) (digits_in_lacks c k (n % 10 ^ k) low)

trimmed_lacks : (c d : ℕ) (ds : List ℕ) → not (d == c) ≡ true → lacks c ds ≡ true → lacks c (onto_trimmed d ds) ≡ true
trimmed_lacks c d [] one all = by (d == 48)
  where
    by : (b : Bool) → lacks c (if b then [] else d ∷ []) ≡ true
    by true = refl
    by false = rw (one) refl
trimmed_lacks c d (e ∷ ds) one all = rw (one) all

zeros_lack : (c : ℕ) (ds : List ℕ) → lacks c ds ≡ true → lacks c (without_zeros_at_end ds) ≡ true
zeros_lack c [] all = refl
zeros_lack c (d ∷ ds) all =
    let parts = and_parts (not (d == c)) (lacks c ds) all in
    trimmed_lacks c d (without_zeros_at_end ds) parts.0 (zeros_lack c ds parts.1)

fraction_lacks : (n : ℕ) → lacks newline (fraction_text n) ≡ true
unfolding fraction_text
fraction_lacks zero = refl
fraction_lacks (suc n) = zeros_lack newline (digits_in 6 (suc n)) (digits_in_lacks newline 6 (suc n) (omega arith))

-- a value is printed in one line
pub printed_plain : (value : Value) → lacks newline (printed value) ≡ true
unfolding printed
printed_plain Over = refl
printed_plain (Num z) =
    lacks-append newline ((if is_negative z then codes "-" else []) ++ decimal (unsigned_abs z / unit)) (fraction_text (unsigned_abs z % unit))
    (lacks-append newline (if is_negative z then codes "-" else []) (decimal (unsigned_abs z / unit)) (by (is_negative z)) (decimal_lacks newline (unsigned_abs z / unit) (omega arith)))
    (fraction_lacks (unsigned_abs z % unit))
  where
    by : (b : Bool) → lacks newline (if b then codes "-" else []) ≡ true
    by true = refl
    by false = refl

-- ---- lines

-- fields that are plain make a plain line
pub joined_plain : (fields : List (List ℕ)) → list_all (lacks newline) fields ≡ true → lacks newline (join_with_byte tab fields) ≡ true
joined_plain [] all = refl
joined_plain (field ∷ []) all = (and_parts (lacks newline field) true all).0
joined_plain (field ∷ next ∷ fields) all =
    let parts = and_parts (lacks newline field) (list_all (lacks newline) (next ∷ fields)) all in
    lacks-append newline field (tab ∷ join_with_byte tab (next ∷ fields)) parts.0 (joined_plain (next ∷ fields) parts.1)

-- lines, each behind the end of the one before
abbrev pub led : List (List ℕ) → List ℕ
led lines = flat_map (λ line. newline ∷ line) lines

abbrev pub cut : List ℕ → List (List ℕ)
cut text = slice_split (λ byte. byte == newline) text

onto : (text more : List ℕ) (rest : List (List ℕ)) → lacks newline text ≡ true → cut more ≡ [] ∷ rest → cut (text ++ more) ≡ text ∷ rest
onto [] more rest plain is = is
onto (byte ∷ text) more rest plain is =
    let parts = and_parts (not (byte == newline)) (lacks newline text) plain in
    by (byte == newline) parts.0 (onto text more rest parts.1 is)
  where
    by : (b : Bool) → not b ≡ true → cut (text ++ more) ≡ text ∷ rest
        → (if b then [] ∷ cut (text ++ more) else onto_first byte (cut (text ++ more))) ≡ (byte ∷ text) ∷ rest
    by true other is = absurd (cc)
    by false other is = ap (onto_first byte) is

behind : (lines : List (List ℕ)) → list_all (lacks newline) lines ≡ true → cut (led lines) ≡ [] ∷ lines
behind [] all = refl
behind (line ∷ lines) all =
    let parts = and_parts (lacks newline line) (list_all (lacks newline) lines) all in
    ap (λ l. [] ∷ l) (onto line (led lines) lines parts.0 (behind lines parts.1))

-- between its line ends a text has its lines
pub cut_lines : (first : List ℕ) (lines : List (List ℕ)) → lacks newline first ≡ true → list_all (lacks newline) lines ≡ true
    → slice_split (λ byte. byte == newline) (first ++ led lines) ≡ first ∷ lines
cut_lines first lines plain all = onto first (led lines) lines plain (behind lines all)
