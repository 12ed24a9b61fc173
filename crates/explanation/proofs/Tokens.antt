-- The tokens that are left, one after another.
use Rattle.std.proofs.Common.{◌≡◌, ap, refl, List, [], ◌∷◌, drop, Some, None}
use Rattle.std.specs.Prelude.{slice_get}
use Rattle.cube_lex.specs.Lexeme.{Lexeme}

-- the next token, and what is behind it
pub next : (left : List Lexeme) (token : Lexeme) → slice_get left 0 ≡ Some token → left ≡ token ∷ drop 1 left
next [] token is = cc is
next (first ∷ left) token is =
    let same : first ≡ token = cc is in
    ap (λ t. t ∷ left) same

pub none_left : (left : List Lexeme) → slice_get left 0 ≡ None → left ≡ []
none_left [] is = refl
none_left (first ∷ left) is = cc is
