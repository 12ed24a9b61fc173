-- What a language of expressions must be, so that its readers are exact.
use Rattle.std.proofs.Common.{◌≡◌, ℕ, List, [], ◌∷◌, Bool, true, false, ◌&&◌, ◌||◌, not, codes}
use Rattle.std.specs.List.{list_any}
use Rattle.std.specs.Str.{bytes_eq}
use Rattle.cube_lex.specs.Lexeme.{Lexeme}
use Rattle.grammar.specs.Grammar.{Grammar}
use Rattle.grammar.specs.Tokens.{is_sign_kind, is_sign}
use Rattle.grammar.specs.Watch.{each_token}
use Rattle.grammar.proofs.Exact.{Exact, Not}
use Rattle.grammar.proofs.Begins.{Begins}
use Rattle.expression_grammar.specs.Language.{Table, Language}
use Rattle.expression_grammar.specs.Expression.{Primaries, nothing}
use Rattle.expression_grammar.specs.Readers.Reading.{Scanner, Reads, PrimaryReader}

-- whether this is the sign of an operator of the table
abbrev pub has_sign : {O : Type 0} → Table O → List ℕ → Bool
has_sign table sign = list_any (λ entry. bytes_eq sign entry.0) table

-- Which signs go on with what was read, level by level.

-- behind a primary: a word that is followed by `(` is another primary
abbrev pub on_primary : List ℕ → Bool
on_primary sign = bytes_eq sign (codes "(")

abbrev pub on_product : {A O : Type 0} → Language A O → List ℕ → Bool
on_product L sign = on_primary sign || has_sign L.product sign

abbrev pub on_sum : {A O : Type 0} → Language A O → List ℕ → Bool
on_sum L sign = on_product L sign || has_sign L.sum sign

abbrev pub on_comparison : {A O : Type 0} → Language A O → List ℕ → Bool
on_comparison L sign = on_sum L sign || has_sign L.relation sign

abbrev pub on_and : {A O : Type 0} → Language A O → List ℕ → Bool
on_and L sign = on_comparison L sign || has_sign L.and sign

abbrev pub on_expression : {A O : Type 0} → Language A O → List ℕ → Bool
on_expression L sign = on_and L sign || has_sign L.or sign

-- whether the token is one of these signs
abbrev pub is_sign_of : (List ℕ → Bool) → Lexeme → Bool
is_sign_of signs t = is_sign_kind t.kind && signs t.piece

-- whether the token goes on with an expression: an operator, or `(`
abbrev pub goes_on : {A O : Type 0} → Language A O → Lexeme → Bool
goes_on L = is_sign_of (on_expression L)

-- What can be seen from the tables.

abbrev pub is_filled : {O : Type 0} → Table O → Bool
is_filled [] = false
is_filled (entry ∷ table) = true

-- each level has an operator
abbrev pub are_filled : {A O : Type 0} → Language A O → Bool
are_filled L = is_filled L.product && (is_filled L.sum && (is_filled L.relation && (is_filled L.and && is_filled L.or)))

-- no operator of the table is one of these signs
abbrev pub is_apart : {O : Type 0} → (List ℕ → Bool) → Table O → Bool
is_apart signs table = not (list_any (λ entry. signs entry.0) table)

-- each level's operators are none of the levels below, and neither `(` nor `)` is an operator
abbrev pub are_apart : {A O : Type 0} → Language A O → Bool
are_apart L = is_apart on_primary L.product && (is_apart (on_product L) L.sum && (is_apart (on_sum L) L.relation && (is_apart (on_comparison L) L.and && (is_apart (on_and L) L.or && not (on_expression L (codes ")"))))))

-- the tables and the primaries of a language, and the reader of its primaries
pub record IsLanguage {A O R C : Type 0} (scan : Scanner R C) (L : Language A O) (primary : Primaries A) (read : PrimaryReader R C A) : Type 1 where
  pub filled : are_filled L ≡ true
  pub apart : are_apart L ≡ true
  -- primaries are exact, if the values and the truths inside them are, and begin with no `)`
  pub exact : {V V' T T' : Grammar Lexeme A} {P Q : Reads R C A} → Begins V' (is_sign (codes ")")) false → Begins T' (is_sign (codes ")")) false → Exact (each_token scan) V V' P (Not (goes_on L)) → Exact (each_token scan) T T' Q (Not (goes_on L)) → Exact (each_token scan) (primary V T) (primary V' T') (read P Q) (Not (is_sign (codes "(")))
  -- a primary begins with none of these signs
  pub no_parenthesis : (V T : Grammar Lexeme A) → Begins (primary V T) (is_sign (codes "(")) false
  pub no_closing : (V T : Grammar Lexeme A) → Begins (primary V T) (is_sign (codes ")")) false
  pub no_minus : (V T : Grammar Lexeme A) → Begins (primary V T) (is_sign (codes "-")) false
  pub no_tilde : (V T : Grammar Lexeme A) → Begins (primary V T) (is_sign (codes "~")) false
  -- there is one with nothing inside it
  pub sample : (u : List Lexeme) × (a : A) × primary nothing nothing u a
