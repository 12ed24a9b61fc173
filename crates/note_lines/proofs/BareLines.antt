-- The lines of consolidated elements without components, token by token.
use Rattle.std.proofs.Common.{◌≡◌, ◌∙◌, ap, true, false, ℕ, List, [], ◌∷◌, ◌++◌, if◌then◌else◌, drop, Some}
use Rattle.std.specs.Prelude.{slice_get}
use Rattle.cube_lex.specs.Lexeme.{Lexeme}
use Rattle.explanation.proofs.Tokens.{next}
use Rattle.note_lines.specs.Bare.{is_bare, bare_line, bare_lines}

module _ (file text : List ℕ) (left : List Lexeme) (token : Lexeme) (is : slice_get left 0 ≡ Some token) where
  pub passed : is_bare token (drop 1 left) ≡ false → bare_lines file text left ≡ bare_lines file text (drop 1 left)
  passed none =
      ap (bare_lines file text) (next left token is)
      ∙ ap (λ b. if b then bare_line file text token (drop 1 left) ++ bare_lines file text (drop 1 left) else bare_lines file text (drop 1 left)) none

  pub noted : is_bare token (drop 1 left) ≡ true → bare_lines file text left ≡ bare_line file text token (drop 1 left) ++ bare_lines file text (drop 1 left)
  noted some =
      ap (bare_lines file text) (next left token is)
      ∙ ap (λ b. if b then bare_line file text token (drop 1 left) ++ bare_lines file text (drop 1 left) else bare_lines file text (drop 1 left)) some
