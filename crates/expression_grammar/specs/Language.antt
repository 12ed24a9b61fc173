-- What makes a language of expressions: its operators, level by level, and how trees are made.
use Rattle.std.specs.Prelude.{ℕ, Bool, List, [], ◌∷◌, Option, Some, None, if◌then◌else◌}
use Rattle.std.specs.List.{list_any}
use Rattle.cube_lex.specs.Lexeme.{Lexeme}
use Rattle.grammar.specs.Tokens.{is_sign}

-- operators of one level: the sign of each, and what it means
abbrev pub Table : Type 0 → Type 0
Table O = List (List ℕ × O)

-- the operator that a token is, if it is one of the table
abbrev pub operator : {O : Type 0} → Table O → Lexeme → Option O
operator [] t = None
operator (entry ∷ table) t = if is_sign entry.0 t then Some entry.1 else operator table t

-- whether a token is an operator of the table
abbrev pub is_operator : {O : Type 0} → Table O → Lexeme → Bool
is_operator table t = list_any (λ entry. is_sign entry.0 t) table

-- A is the type of trees, O of operators
pub record Language (A O : Type 0) : Type 0 where
  -- `%`, which takes truths
  pub or : Table O
  -- `&`, which takes truths
  pub and : Table O
  -- comparisons, which take values and give a truth
  pub relation : Table O
  -- `+` and what stands beside it
  pub sum : Table O
  -- `*` and what stands beside it
  pub product : Table O
  -- an operator between two trees
  pub joined : O → A → A → A
  -- `-` before a tree
  pub negated : A → A
  -- `~` before a tree
  pub opposite : A → A
