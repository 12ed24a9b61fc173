-- What each kind of part begins with.
use Rattle.std.proofs.Common.{◌≡◌, ℕ, ◌+◌, ◌≤◌, Bool, true, false, cond, not, ◌||◌, ◌==◌, eqb, eqb-true, List, [], ◌∷◌, ◌++◌, length, take, drop, get_or, refl, sym, ap, ◌∙◌, one-add, arith, take-append-drop, inl, inr, min, length-take, length-append, append_assoc}
use Rattle.std.proofs.Math.Seq.{take-append_seam, drop-append_seam}
use Rattle.std.proofs.lemmas.List.Sums.{prefix_len-le-length}
use Rattle.std.specs.Char.{is_ascii_digit}
use Rattle.std.specs.Int.{is_in_range}
use Rattle.std.specs.List.{list_all, prefix_len}
use Rattle.cube_lex.specs.Bytes.{Begins, is_white, is_line_end, starts_word, is_word_byte}
use Rattle.cube_lex.specs.Parts.{IsWord, IsSpace, IsComment, IsNumber, IsDigits, IsLongest}
use Rattle.cube_lex.specs.Inside.Front.{IsFractionLen}
use Rattle.cube_lex.proofs.Runs.{prefix-passes, prefix-ends, run-longest}
use Rattle.cube_lex.proofs.Numbers.{whole-longest, fraction-longest}

-- a byte that passes is what the bytes begin with
pub begins : (p : ℕ → Bool) (bytes : List ℕ) → 1 ≤ length bytes → p (get_or bytes 0 0) ≡ true → Begins p bytes
begins p [] some passes = absurd (omega arith)
begins p (b ∷ bs) some passes = passes

-- the first run of a list that begins with one
pub first-run : (p : ℕ → Bool) (b : ℕ) (bs : List ℕ) → p b ≡ true → take (prefix_len p (b ∷ bs)) (b ∷ bs) ≡ b ∷ take (prefix_len p bs) bs
first-run p b bs passes = rw (passes, one-add)

-- the first run of a text is the longest of its kind, where the kind is made of bytes that pass
run-stands : (Is : List ℕ → Type 0) (p : ℕ → Bool) → ((bytes : List ℕ) → Is bytes → list_all p bytes ≡ true)
    → (bytes : List ℕ) → Is (take (prefix_len p bytes) bytes) → IsLongest Is (take (prefix_len p bytes) bytes) (drop (prefix_len p bytes) bytes)
run-stands Is p passes bytes is = (
  is,
  λ longer more is_longer e.
      run-longest p longer more (take (prefix_len p bytes) bytes) (drop (prefix_len p bytes) bytes) (passes longer is_longer) (prefix-ends p bytes) e,
)

pub space-passes : (bytes : List ℕ) → IsSpace bytes → list_all is_white bytes ≡ true
space-passes [] is = absurd is
space-passes (b ∷ bs) is = is

pub comment-passes : (bytes : List ℕ) → IsComment bytes → list_all (λ b. not (is_line_end b)) bytes ≡ true
comment-passes [] is = absurd is
comment-passes (b ∷ bs) is = rw (is.0) (is.1)

pub word-start-passes : (b : ℕ) → starts_word b ≡ true → is_word_byte b ≡ true
word-start-passes b = alphabetic_or_more (is_in_range 48 57 b) (is_in_range 65 90 b) (is_in_range 97 122 b) (b == 95) where
  alphabetic_or_more : (digit upper lower underscore : Bool) → ((upper || lower) || underscore) ≡ true → (((digit || upper) || lower) || underscore) ≡ true
  alphabetic_or_more true upper lower underscore e = refl
  alphabetic_or_more false upper lower underscore e = e

pub word-passes : (bytes : List ℕ) → IsWord bytes → list_all is_word_byte bytes ≡ true
word-passes [] is = absurd is
word-passes (b ∷ bs) is = let first : is_word_byte b ≡ true = word-start-passes b is.0 in rw first (is.1)

pub space-stands : (bytes : List ℕ) → Begins is_white bytes → IsLongest IsSpace (take (prefix_len is_white bytes) bytes) (drop (prefix_len is_white bytes) bytes)
space-stands [] starts = absurd starts
space-stands (b ∷ bs) starts = run-stands IsSpace is_white space-passes (b ∷ bs)
    (rw (first-run is_white b bs starts) (rw (first-run is_white b bs starts) at (prefix-passes is_white (b ∷ bs))))

pub comment-stands : (bytes : List ℕ) → Begins (λ b. eqb b 35) bytes
    → IsLongest IsComment (take (prefix_len (λ b. not (is_line_end b)) bytes) bytes) (drop (prefix_len (λ b. not (is_line_end b)) bytes) bytes)
comment-stands [] starts = absurd starts
comment-stands (b ∷ bs) starts =
    let hash : b ≡ 35 = eqb-true b 35 starts in
    run-stands IsComment (λ c. not (is_line_end c)) comment-passes (b ∷ bs)
    (rw (first-run (λ c. not (is_line_end c)) b bs (rw hash refl)) (hash, prefix-passes (λ c. not (is_line_end c)) bs))

pub word-stands : (bytes : List ℕ) → Begins starts_word bytes → IsLongest IsWord (take (prefix_len is_word_byte bytes) bytes) (drop (prefix_len is_word_byte bytes) bytes)
word-stands [] starts = absurd starts
word-stands (b ∷ bs) starts = run-stands IsWord is_word_byte word-passes (b ∷ bs)
    (rw (first-run is_word_byte b bs (word-start-passes b starts)) (starts, prefix-passes is_word_byte bs))

-- what prefix_len finds is there
pub prefix-fits : (p : ℕ → Bool) (bytes : List ℕ) → length (take (prefix_len p bytes) bytes) ≡ prefix_len p bytes
prefix-fits p bytes = length-take (prefix_len p bytes) bytes ∙ min-left where
  min-left : min (prefix_len p bytes) (length bytes) ≡ prefix_len p bytes
  min-left = omega (arith, prefix_len-le-length p bytes)

digits-at : (bytes : List ℕ) → Begins is_ascii_digit bytes → IsDigits (take (prefix_len is_ascii_digit bytes) bytes)
digits-at [] starts = absurd starts
digits-at (b ∷ bs) starts =
    let is : list_all is_ascii_digit (b ∷ take (prefix_len is_ascii_digit bs) bs) ≡ true = rw (first-run is_ascii_digit b bs starts) at (prefix-passes is_ascii_digit (b ∷ bs)) in
    rw (first-run is_ascii_digit b bs starts) is

-- all the digits of a text, and the fraction behind them, are a number
pub number-stands : (bytes : List ℕ) (len : ℕ) → Begins is_ascii_digit bytes → IsFractionLen (drop (prefix_len is_ascii_digit bytes) bytes) len
    → (prefix_len is_ascii_digit bytes + len ≤ length bytes)
    × IsLongest IsNumber (take (prefix_len is_ascii_digit bytes + len) bytes) (drop (prefix_len is_ascii_digit bytes + len) bytes)
number-stands bytes len starts behind = by_fraction _ _ refl refl behind where
  by_fraction : (whole rest : List ℕ) → take (prefix_len is_ascii_digit bytes) bytes ≡ whole → drop (prefix_len is_ascii_digit bytes) bytes ≡ rest → IsFractionLen rest len
      → (prefix_len is_ascii_digit bytes + len ≤ length bytes)
      × IsLongest IsNumber (take (prefix_len is_ascii_digit bytes + len) bytes) (drop (prefix_len is_ascii_digit bytes + len) bytes)
  by_fraction whole rest whole-is rest-is fraction =
      let all : whole ++ rest ≡ bytes = cc (take-append-drop (prefix_len is_ascii_digit bytes) bytes) in
      let whole_len : length whole ≡ prefix_len is_ascii_digit bytes = ap length (sym whole-is) ∙ prefix-fits is_ascii_digit bytes in
      let digits : IsDigits whole = rw whole-is at (digits-at bytes starts) in
      let ends : Begins is_ascii_digit rest → ⊥ = rw rest-is at (prefix-ends is_ascii_digit bytes) in
      elim fraction [
        | inl none ↦
            let len-is : prefix_len is_ascii_digit bytes + len ≡ length whole = omega arith in
            rw (len-is, ← all, take-append_seam whole rest, drop-append_seam whole rest)
            (simp length-append (omega arith), whole-longest whole rest digits ends none.1)
        | inr some ↦
            let regrouped : (whole ++ 46 ∷ some.0) ++ some.1 ≡ bytes = append_assoc whole (46 ∷ some.0) some.1 ∙ ap (λ tail. whole ++ tail) (sym some.3) ∙ all in
            let len-is : prefix_len is_ascii_digit bytes + len ≡ length (whole ++ 46 ∷ some.0) = simp length-append (omega arith) in
            rw (len-is, ← regrouped, take-append_seam (whole ++ 46 ∷ some.0) some.1, drop-append_seam (whole ++ 46 ∷ some.0) some.1)
            (simp length-append (omega arith), fraction-longest whole some.0 some.1 digits some.2 some.4)
      ]

-- a point and all the digits behind it
pub fraction-len : (bytes : List ℕ) (digits : ℕ) → (length bytes ≡ 0 → ⊥) → get_or bytes 0 0 ≡ 46 → digits ≡ prefix_len is_ascii_digit (drop 1 bytes) → (digits ≡ 0 → ⊥) → IsFractionLen bytes (digits + 1)
fraction-len [] digits some point len more = absurd (some refl)
fraction-len (b ∷ bs) digits some point len more =
    inr (
      take digits bs,
      drop digits bs,
      rw len digits_are,
      ap (λ c. c ∷ bs) point ∙ ap (λ cs. 46 ∷ cs) (sym (take-append-drop digits bs)),
      rw len (prefix-ends is_ascii_digit bs),
      rw len (simp (prefix-fits is_ascii_digit bs) (omega arith)),
    ) where
      starts : (cs : List ℕ) → (prefix_len is_ascii_digit cs ≡ 0 → ⊥) → Begins is_ascii_digit cs
      starts [] h = h refl
      starts (c ∷ cs) h = elim (is_ascii_digit c) as (λ d. (cond d (1 + prefix_len is_ascii_digit cs) 0 ≡ 0 → ⊥) → d ≡ true) [ true ↦ λ k. refl | false ↦ λ k. absurd (k refl) ] h

      digits_are : IsDigits (take (prefix_len is_ascii_digit bs) bs)
      digits_are = digits-at bs (starts bs (λ none. more (len ∙ none)))
