-- Assignments begin with a word that names a variable, and `=`.
use Rattle.std.proofs.Common.{◌≡◌, ℕ, List, [], ◌∷◌, ◌++◌, true, false, codes, refl, ◌∙◌, ap}
use Rattle.std.specs.Prelude.{bytes_eq}
use Rattle.std.proofs.lemmas.Bool.{and_right as and_no}
use Rattle.cube_lex.specs.Lexeme.{Lexeme}
use Rattle.grammar.specs.Tokens.{is_sign, is_word, capitals}
use Rattle.grammar.specs.Variables.{is_variable}
use Rattle.grammar.proofs.Tokens.{sign_of, sign_tells}
use Rattle.expression_grammar.specs.Readers.Lookahead.{starts_pair}
use Rattle.script_tree.specs.Statement.{assignment}
use Rattle.script_tree.specs.declared.line.Line.{Line}
use Rattle.script_tree.specs.declared.line.Line.TheVariants as lines
use Rattle.script_reader.proofs.ValueExact.{value_exact}
use Rattle.script_reader.proofs.FirstWords.{variable_of}

-- no other sign stands behind the variable
pub assignment_no : (mark other : List ℕ) → bytes_eq (codes "=") other ≡ false → (u : List Lexeme) (l : Line) (rest : List Lexeme) → assignment u l → starts_pair (is_word mark) (is_sign other) (u ++ rest) ≡ false
assignment_no mark other differs u l rest (a, b, name, parts, (t, is, picks), (c, d, x, more, (s, single, equals), h)) =
    ap (λ y. starts_pair (is_word mark) (is_sign other) (y ++ rest)) (parts ∙ ap (λ y. y ++ b) is ∙ ap (λ y. t ∷ y) (more ∙ ap (λ y. y ++ d) single))
    ∙ and_no (is_word mark t) (is_sign other s) (sign_tells (codes "=") other s x equals ∙ differs)

-- `mark = 1 ;`
pub assignment_of_word : (mark : List ℕ) → capitals mark ≡ mark → is_variable mark ≡ true → (t : Lexeme) → is_word mark t ≡ true → (v : List Lexeme) × (l : Line) × assignment (t ∷ v) l
assignment_of_word mark capital names t is =
    let (w, e, h) = value_exact.word in
    let equals : Lexeme = sign_of (codes "=") in
    let ends : Lexeme = sign_of (codes ";") in (
      equals ∷ (w ++ ends ∷ []),
      lines.Assign mark e,
      (t ∷ [], equals ∷ (w ++ ends ∷ []), mark, refl, (t, refl, variable_of mark capital names t is), (equals ∷ [], w ++ ends ∷ [], tt, refl, (equals, refl, refl), (w, ends ∷ [], e, refl, h, (ends ∷ [], [], tt, refl, (ends, refl, refl), (refl, refl))))),
    )
