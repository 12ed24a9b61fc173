-- The grammar of expressions. A value and a truth are read at levels of operators that group from the left; parentheses
-- leave nothing in the tree.
use Rattle.std.specs.Prelude.{ℕ, zero, suc, List, [], ◌∷◌, codes}
use Rattle.cube_lex.specs.Lexeme.{Lexeme}
use Rattle.grammar.specs.Grammar.{Grammar, done, one, either, many, ◌>>=◌, ◌>>◌}
use Rattle.grammar.specs.Tokens.{sign}
use Rattle.expression_grammar.specs.Language.{Table, operator, Language}
use Rattle.expression_grammar.specs.declared.sort.Sort.{Sort}
use Rattle.expression_grammar.specs.declared.sort.Sort.TheVariants as sorts

-- a tree and the operations behind it, from the left
abbrev pub from_left : {A O : Type 0} → (O → A → A → A) → A → List (O × A) → A
from_left joined head [] = head
from_left joined head (operation ∷ rest) = from_left joined (joined operation.0 head operation.1) rest

-- an operator and its right operand
abbrev pub operation : {A O : Type 0} → Table O → Grammar Lexeme A → Grammar Lexeme (O × A)
operation table operand = do
  o ← one (operator table)
  right ← operand
  done (o, right)

-- operand { operator operand }
abbrev pub chain : {A O : Type 0} → (O → A → A → A) → Table O → Grammar Lexeme A → Grammar Lexeme A
chain joined table operand = do
  head ← operand
  rest ← many (operation table operand)
  done (from_left joined head rest)

-- [ sign ] operand
abbrev pub prefixed : {A : Type 0} → List ℕ → (A → A) → Grammar Lexeme A → Grammar Lexeme A
prefixed before make operand = either (do one (sign before); e ← operand; done (make e)) operand

-- "(" operand ")"
abbrev pub enclosed : {A : Type 0} → Grammar Lexeme A → Grammar Lexeme A
enclosed inner = do
  one (sign (codes "("))
  e ← inner
  one (sign (codes ")"))
  done e

-- the primaries of a language but for parentheses, by the values and truths that stand inside them
abbrev pub Primaries : Type 0 → Type 1
Primaries A = Grammar Lexeme A → Grammar Lexeme A → Grammar Lexeme A

-- a value, by the values and truths inside it
abbrev pub value_of : {A O : Type 0} → Language A O → Primaries A → Grammar Lexeme A → Grammar Lexeme A
    → Grammar Lexeme A
value_of L primary value truth =
    chain L.joined L.sum
    (chain L.joined L.product (prefixed (codes "-") L.negated (either (enclosed value) (primary value truth))))

-- two values that are compared
abbrev pub comparison : {A O : Type 0} → Language A O → Grammar Lexeme A → Grammar Lexeme A
comparison L value = do
  left ← value
  o ← one (operator L.relation)
  right ← value
  done (L.joined o left right)

-- a truth, by the values and truths inside it
abbrev pub truth_of : {A O : Type 0} → Language A O → Primaries A → Grammar Lexeme A → Grammar Lexeme A
    → Grammar Lexeme A
truth_of L primary value truth =
    chain L.joined L.or
    (chain L.joined L.and
    (prefixed (codes "~") L.opposite (either (enclosed truth) (comparison L (value_of L primary value truth)))))

abbrev pub nothing : {A : Type 0} → Grammar Lexeme A
nothing ts e = ⊥

-- what has at most so many expressions one inside the other
abbrev pub within : {A O : Type 0} → Language A O → Primaries A → ℕ → Sort → Grammar Lexeme A
within L primary zero sort = nothing
within L primary (suc h) sorts.Value =
    value_of L primary (within L primary h sorts.Value) (within L primary h sorts.Truth)
within L primary (suc h) sorts.Truth =
    truth_of L primary (within L primary h sorts.Value) (within L primary h sorts.Truth)

-- an expression of this sort
abbrev pub expression : {A O : Type 0} → Language A O → Primaries A → Sort → Grammar Lexeme A
expression L primary sort ts e = (h : ℕ) × within L primary h sort ts e
