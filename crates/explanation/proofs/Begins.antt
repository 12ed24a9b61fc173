-- The tokens of a statement or feeder, from the first on with which it is counted.
use Rattle.std.proofs.Common.{◌≡◌, ◌∙◌, ap, sym, refl, true, false, if◌then◌else◌, List, [], ◌∷◌, drop, Some, Ok, Err}
use Rattle.std.specs.Prelude.{slice_get}
use Rattle.cube_lex.specs.Lexeme.{Lexeme}
use Rattle.file_passes.specs.declared.refusal.FilePlace.{FilePlace}
use Rattle.rule_tree.specs.Counting.{count}
use Rattle.rule_tree.specs.declared.counted.Counted.{Counted}
use Rattle.rule_tree.specs.declared.excess.Excess.{Excess}
use Rattle.explanation.specs.Statements.{is_counted, counted_tokens, tokens_or}
use Rattle.explanation.proofs.Tokens.{next}

module _ (place : FilePlace) (counted : Counted) (left : List Lexeme) (token : Lexeme) (is : slice_get left 0 ≡ Some token) where
  pub past : (excess : Excess) × (count counted token ≡ Err excess) → counted_tokens place counted left ≡ []
  past (excess, over) =
      ap (counted_tokens place counted) (next left token is)
      ∙ ap (tokens_or place (token ∷ drop 1 left) (λ more. counted_tokens place more (drop 1 left))) over

  pub found : (more : Counted) → count counted token ≡ Ok more → is_counted place more ≡ true → counted_tokens place counted left ≡ left
  found more within last =
      ap (counted_tokens place counted) (next left token is)
      ∙ ap (tokens_or place (token ∷ drop 1 left) (λ more. counted_tokens place more (drop 1 left))) within
      ∙ ap (λ b. if b then token ∷ drop 1 left else counted_tokens place more (drop 1 left)) last
      ∙ sym (next left token is)

  pub on : (more : Counted) → count counted token ≡ Ok more → is_counted place more ≡ false → counted_tokens place counted left ≡ counted_tokens place more (drop 1 left)
  on more within other =
      ap (counted_tokens place counted) (next left token is)
      ∙ ap (tokens_or place (token ∷ drop 1 left) (λ more. counted_tokens place more (drop 1 left))) within
      ∙ ap (λ b. if b then token ∷ drop 1 left else counted_tokens place more (drop 1 left)) other
