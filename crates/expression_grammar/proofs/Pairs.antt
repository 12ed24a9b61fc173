-- The next two tokens.
use Rattle.std.proofs.Common.{◌≡◌, List, [], ◌∷◌, drop, Bool, ◌&&◌, refl}
use Rattle.cube_lex.specs.Lexeme.{Lexeme}
use Rattle.grammar.specs.Reading.{starts}
use Rattle.expression_grammar.specs.Readers.Lookahead.{starts_pair}

pub pair_is : (p q : Lexeme → Bool) (ts : List Lexeme) → starts_pair p q ts ≡ starts p ts && starts q (drop 1 ts)
pair_is p q [] = refl
pair_is p q (t ∷ ts) = refl
