-- There is at most one list of the only tokens from a place on.
use Rattle.std.specs.Prelude.{◌≡◌, ℕ, List}
use Rattle.std.specs.Coded.{Coded-set, Coded, codes, coded_list, ×_prop, Π_prop}
use Rattle.std.proofs.Math.Logic.{∥∥₁_prop}
use mathlib.Core.HLevel.{Σ_prop_path}
use Rattle.cube_lex.specs.Ahead.{TokensFrom, AreTheAhead}
use Rattle.cube_lex.specs.Lexeme.{Lexeme}
use Rattle.cube_lex.specs.contracts.token.Kind as kinds

lexeme_code : Coded Lexeme
lexeme_code = hlevel (codes, kinds.the_row.coded)

pub lexemes_set : (xs ys : List Lexeme) → IsProp (xs ≡ ys)
lexemes_set xs ys = Coded-set (coded_list lexeme_code) xs ys

the_prop : (text : List ℕ) (at line left : ℕ) (tokens : List Lexeme) → IsProp (AreTheAhead text at line left tokens)
the_prop text at line left tokens = ×_prop ∥∥₁_prop (Π_prop (λ other. Π_prop (λ _. lexemes_set tokens other)))

pub tokens_prop : (text : List ℕ) (at line left : ℕ) → IsProp (TokensFrom text at line left)
tokens_prop text at line left u v = Σ_prop_path (the_prop text at line left) (u.1.1 v.0 v.1.0)
