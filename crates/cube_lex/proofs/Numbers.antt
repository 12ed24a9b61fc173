-- Numbers: digits, and optionally a point and digits.
use Rattle.std.proofs.Common.{◌≡◌, ℕ, ◌≤◌, true, List, [], ◌∷◌, ◌++◌, length, refl, sym, ap, ◌∙◌, append_assoc, length-append, inl, inr, arith}
use Rattle.std.specs.Char.{is_ascii_digit}
use Rattle.std.specs.List.{list_all}
use Rattle.cube_lex.specs.Bytes.{Begins}
use Rattle.cube_lex.specs.Inside.Front.{BeginsFraction}
use Rattle.cube_lex.specs.Parts.{IsDigits, IsNumber, IsLongest}
use Rattle.cube_lex.proofs.Runs.{run-longest, run-only}

pub digits-pass : (bytes : List ℕ) → IsDigits bytes → list_all is_ascii_digit bytes ≡ true
digits-pass [] is = absurd is
digits-pass (b ∷ bs) is = is

-- digits that neither a digit nor a fraction follows
pub whole-longest : (whole rest : List ℕ) → IsDigits whole → (Begins is_ascii_digit rest → ⊥) → (BeginsFraction rest → ⊥) → IsLongest IsNumber whole rest
whole-longest whole rest is ends no_fraction = (
  inl is,
  λ longer more number e. elim number [
    | inl digits ↦ run-longest is_ascii_digit longer more whole rest (digits-pass longer digits) ends e
    | inr parts ↦
        let apart : parts.0 ++ (46 ∷ parts.1 ++ more) ≡ whole ++ rest = sym (append_assoc parts.0 (46 ∷ parts.1) more) ∙ ap (λ bytes. bytes ++ more) (sym parts.4) ∙ e in
        let same : (parts.0 ≡ whole) × (46 ∷ parts.1 ++ more ≡ rest) = run-only is_ascii_digit parts.0 whole (46 ∷ parts.1 ++ more) rest (digits-pass parts.0 parts.2) (digits-pass whole is) (λ h. cc) ends apart in
        absurd (no_fraction (parts.1, more, parts.3, sym same.1))
  ],
)

-- digits, a point and digits that no digit follows
pub fraction-longest : (whole fraction rest : List ℕ) → IsDigits whole → IsDigits fraction → (Begins is_ascii_digit rest → ⊥) → IsLongest IsNumber (whole ++ 46 ∷ fraction) rest
fraction-longest whole fraction rest is fraction_is ends = (
  inr (whole, fraction, is, fraction_is, refl),
  λ longer more number e.
      let regrouped : longer ++ more ≡ whole ++ (46 ∷ fraction ++ rest) = e ∙ append_assoc whole (46 ∷ fraction) rest in
      elim number [
        | inl digits ↦
            let short : length longer ≤ length whole = run-longest is_ascii_digit longer more whole (46 ∷ fraction ++ rest) (digits-pass longer digits) (λ h. cc) regrouped in
            simp length-append (omega (arith, short))
        | inr parts ↦
            let apart : parts.0 ++ (46 ∷ parts.1 ++ more) ≡ whole ++ (46 ∷ fraction ++ rest) = sym (append_assoc parts.0 (46 ∷ parts.1) more) ∙ ap (λ bytes. bytes ++ more) (sym parts.4) ∙ regrouped in
            let same : (parts.0 ≡ whole) × (46 ∷ parts.1 ++ more ≡ 46 ∷ fraction ++ rest) = run-only is_ascii_digit parts.0 whole (46 ∷ parts.1 ++ more) (46 ∷ fraction ++ rest) (digits-pass parts.0 parts.2) (digits-pass whole is) (λ h. cc) (λ h. cc) apart in
            let behind : parts.1 ++ more ≡ fraction ++ rest = cc (same.1) in
            let short : length parts.1 ≤ length fraction = run-longest is_ascii_digit parts.1 more fraction rest (digits-pass parts.1 parts.3) ends behind in
            rw (parts.4) (simp length-append (omega (arith, short, ap length same.0)))
      ],
)
