-- The references behind one of them.
use Rattle.std.proofs.Common.{◌≡◌, ◌∙◌, ap, sym, subst, refl, arith, true, false, Bool, if◌then◌else◌, ℕ, zero, suc, ◌+◌, ◌-◌, ◌≤◌, List, [], ◌∷◌, codes}
use Rattle.std.specs.Prelude.{slice_index_or}
use Rattle.cube_lex.specs.Lexeme.{Lexeme}
use Rattle.explanation.specs.Statements.{behind, begins_reference, references}
use Rattle.explanation.specs.Tables.{AreLeft}
use Rattle.explanation.specs.declared.tables.ReferencesLeft.{ReferencesLeft}
use Rattle.explanation.proofs.Suffixes.{of-none}

-- one token more: whether a reference begins with it or not
module _ (token : Lexeme) (tokens : List Lexeme) (j : ℕ) (behind_it : (k : ℕ) → slice_index_or (references (slice_index_or (references tokens) k [])) j [] ≡ slice_index_or (references tokens) (k + j) []) where
  abbrev all : List (List Lexeme)
  all = references (token ∷ tokens)

  abbrev among : Bool → List (List Lexeme)
  among b = if b then (token ∷ tokens) ∷ references tokens else references tokens

  step : (b : Bool) → all ≡ among b → (k : ℕ) → slice_index_or (references (slice_index_or all k [])) j [] ≡ slice_index_or all (k + j) []
  step true are zero =
      let none : j ≡ 0 + j = omega arith in
      ap (λ l. slice_index_or (references (slice_index_or l 0 [])) j []) are
      ∙ ap (λ n. slice_index_or all n []) none
  step true are (suc k) =
      let more : suc k + j ≡ suc (k + j) = omega arith in
      ap (λ l. slice_index_or (references (slice_index_or l (suc k) [])) j []) are
      ∙ behind_it k
      ∙ sym (ap (λ l. slice_index_or l (suc k + j) []) are ∙ ap (λ n. slice_index_or (among true) n []) more)
  step false are k =
      ap (λ l. slice_index_or (references (slice_index_or l k [])) j []) are
      ∙ behind_it k
      ∙ sym (ap (λ l. slice_index_or l (k + j) []) are)

-- from the reference on before which `k` others stand, the one of a number is that of `k` more among all
pub onward : (tokens : List Lexeme) (k j : ℕ) → slice_index_or (references (slice_index_or (references tokens) k [])) j [] ≡ slice_index_or (references tokens) (k + j) []
onward [] k j = ap (λ l. slice_index_or (references l) j []) (of-none k []) ∙ of-none j [] ∙ sym (of-none (k + j) [])
onward (token ∷ tokens) k j = step token tokens j (λ n. onward tokens n j) (begins_reference token tokens) refl k

module _ (tokens : List Lexeme) (left : ReferencesLeft) (are : AreLeft tokens left) where
  pub further : (others : ℕ) → left.passed ≤ others → (more : ReferencesLeft) → more.passed ≡ others → more.left ≡ slice_index_or (references left.left) (others - left.passed) [] → AreLeft tokens more
  further others later more passed is = record {
    are = λ n after.
        let k = others - left.passed in
        let low : left.passed ≤ n = omega (arith, later, after, passed) in
        let sum : k + (n - more.passed) ≡ n - left.passed = omega (arith, later, after, passed) in
        are.are n low
        ∙ sym (ap (λ m. slice_index_or (references left.left) m []) sum)
        ∙ sym (onward left.left k (n - more.passed))
        ∙ sym (ap (λ l. slice_index_or (references l) (n - more.passed) []) is);
  }

  pub its-tokens : (others : ℕ) → left.passed ≤ others → (more : ReferencesLeft) → more.left ≡ slice_index_or (references left.left) (others - left.passed) [] → more.left ≡ slice_index_or (references (behind (codes "=") tokens)) others []
  its-tokens others later more is = is ∙ sym (are.are others later)
