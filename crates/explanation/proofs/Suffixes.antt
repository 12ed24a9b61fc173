-- The one of a number among the parts of a list, from the front.
use Rattle.std.proofs.Common.{◌≡◌, ◌∙◌, ap, sym, refl, arith, true, false, if◌then◌else◌, ℕ, zero, suc, ◌-◌, List, [], ◌∷◌, drop, Some}
use Rattle.std.specs.Prelude.{slice_get, slice_index_or}
use Rattle.cube_lex.specs.Lexeme.{Lexeme}
use Rattle.explanation.specs.Operands.{begins_operand, operands, passed}
use Rattle.explanation.specs.Statements.{begins_reference, references}
use Rattle.explanation.specs.declared.operands.Within.{Within}
use Rattle.explanation.proofs.Tokens.{next}

pub behind-first : {A : Type 0} (x : A) (xs : List A) (n : ℕ) (other : A) → (n ≡ 0 → ⊥) → slice_index_or (x ∷ xs) n other ≡ slice_index_or xs (n - 1) other
behind-first x xs zero other some = absurd (some refl)
behind-first x xs (suc n) other some = ap (λ k. slice_index_or xs k other) (omega arith)

pub of-none : {A : Type 0} (n : ℕ) (other : A) → slice_index_or [] n other ≡ other
of-none zero other = refl
of-none (suc n) other = refl

module _ (left : List Lexeme) (token : Lexeme) (is : slice_get left 0 ≡ Some token) where
  pub reference-begins : begins_reference token (drop 1 left) ≡ true → references left ≡ left ∷ references (drop 1 left)
  reference-begins begins =
      ap references (next left token is)
      ∙ ap (λ b. if b then (token ∷ drop 1 left) ∷ references (drop 1 left) else references (drop 1 left)) begins
      ∙ ap (λ l. l ∷ references (drop 1 left)) (sym (next left token is))

  module _ (within : Within) where
    abbrev behind : List (List Lexeme)
    behind = operands (passed within token (drop 1 left)) (drop 1 left)

    pub operand-begins : begins_operand within token (drop 1 left) ≡ true → operands within left ≡ left ∷ behind
    operand-begins begins =
        ap (operands within) (next left token is)
        ∙ ap (λ b. if b then (token ∷ drop 1 left) ∷ behind else behind) begins
        ∙ ap (λ l. l ∷ behind) (sym (next left token is))

    pub no-operand : begins_operand within token (drop 1 left) ≡ false → operands within left ≡ behind
    no-operand none =
        ap (operands within) (next left token is)
        ∙ ap (λ b. if b then (token ∷ drop 1 left) ∷ behind else behind) none
