-- Whether a token is an operator of a table.
use Rattle.std.proofs.Common.{◌≡◌, [], ◌∷◌, Option, Some, Bool, true, false, if◌then◌else◌, ◌||◌, refl}
use Rattle.std.specs.Option.{is_some}
use Rattle.cube_lex.specs.Lexeme.{Lexeme}
use Rattle.grammar.specs.Tokens.{is_sign}
use Rattle.expression_grammar.specs.Language.{Table, operator, is_operator}

some_here : {O : Type 0} (b : Bool) (o : O) (other : Option O) (rest : Bool) → is_some other ≡ rest → is_some (if b then Some o else other) ≡ (b || rest)
some_here true o other rest e = refl
some_here false o other rest e = e

pub some_operator : {O : Type 0} (table : Table O) (t : Lexeme) → is_some (operator table t) ≡ is_operator table t
some_operator [] t = refl
some_operator (entry ∷ table) t = some_here (is_sign entry.0 t) entry.1 (operator table t) (is_operator table t) (some_operator table t)
