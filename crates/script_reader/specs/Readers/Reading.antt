-- The readers of expressions, in the shape of the code.
use Rattle.std.specs.Prelude.{ℕ, List, [], ◌∷◌, Option, Some, None, codes}
use Rattle.cube_lex.specs.Lexeme.{Lexeme}
use Rattle.cube_lex.specs.declared.position.Position.{Position}
use Rattle.grammar.specs.Reading.{Reader, gives, take_one, choose, ◌>>=◌, ◌>>◌}
use Rattle.grammar.specs.Lists.{read_listed}
use Rattle.grammar.specs.Tokens.{sign, word, text, money, is_sign, is_text, is_number}
use Rattle.expression_grammar.specs.Limits.{most_inside}
use Rattle.expression_grammar.specs.Readers.Reading.{read_expression, tree_of}
use Rattle.expression_grammar.specs.declared.sort.Sort.{Sort}
use Rattle.expression_grammar.specs.declared.sort.Want.{Want}
use Rattle.expression_grammar.specs.declared.sort.Want.TheVariants as wants
use Rattle.script_tree.specs.Counting.{count}
use Rattle.script_tree.specs.Expression.{scripts_language, functions, functions_before_parenthesis, function_in}
use Rattle.script_tree.specs.Expression.{expression_word}
use Rattle.script_tree.specs.declared.counted.Counted.{Counted}
use Rattle.script_tree.specs.declared.excess.Excess.{Excess}
use Rattle.script_tree.specs.declared.expr.Expr.{Expr}
use Rattle.script_tree.specs.declared.expr.Expr.TheVariants as exprs
use Rattle.script_tree.specs.declared.expr.ScriptFun.{ScriptFun}
use Rattle.script_tree.specs.declared.expr.ScriptFun.TheVariants as funs

-- a reader of a part of the text
abbrev pub Plan : Type 0 → Type 0
Plan A = Reader Lexeme Counted Excess A

-- this sign, this word
abbrev pub take_sign : List ℕ → Plan (Unit {0})
take_sign bytes = take_one count (sign bytes)

abbrev pub take_word : List ℕ → Plan Position
take_word bytes = take_one count (word bytes)

unfoldable pub read_number : Plan Expr
read_number = do value ← take_one count money; gives (exprs.Number value)

unfoldable pub read_quoted : Plan Expr
read_quoted = do bytes ← take_one count text; gives (exprs.Text bytes)

-- Arguments.

unfoldable pub read_one_value : Plan Expr → Plan (List Expr)
read_one_value value = do argument ← value; gives (argument ∷ [])

unfoldable pub read_two_values : Plan Expr → Plan (List Expr)
read_two_values value = do
  first ← value
  take_sign (codes ",")
  second ← value
  gives (first ∷ second ∷ [])

unfoldable pub read_three_values : Plan Expr → Plan (List Expr)
read_three_values value = do
  first ← value
  take_sign (codes ",")
  rest ← read_two_values value
  gives (first ∷ rest)

unfoldable pub read_two_or_more : Plan Expr → Plan (List Expr)
read_two_or_more value = do
  first ← value
  take_sign (codes ",")
  rest ← read_listed count value
  gives (first ∷ rest)

unfoldable pub read_three_or_more : Plan Expr → Plan (List Expr)
read_three_or_more value = do
  first ← value
  take_sign (codes ",")
  rest ← read_two_or_more value
  gives (first ∷ rest)

unfoldable pub read_arguments : ScriptFun → Plan Expr → Plan (List Expr)
read_arguments funs.CellGetN value = read_two_or_more value
read_arguments funs.Max value = read_two_values value
read_arguments funs.Min value = read_two_values value
read_arguments funs.Abs value = read_one_value value
read_arguments funs.Sign value = read_one_value value
read_arguments funs.Int value = read_one_value value
read_arguments funs.Round value = read_one_value value
read_arguments funs.StringToNumber value = read_one_value value
read_arguments funs.NumberToString value = read_one_value value
read_arguments funs.Trim value = read_one_value value
read_arguments funs.Upper value = read_one_value value
read_arguments funs.Lower value = read_one_value value
read_arguments funs.Long value = read_one_value value
read_arguments funs.Scan value = read_two_values value
read_arguments funs.Subst value = read_three_values value
read_arguments funs.Str value = read_three_values value
read_arguments funs.Mod value = read_two_values value
read_arguments funs.RoundP value = read_two_values value
read_arguments funs.Trunc value = read_one_value value
read_arguments funs.ElementCount value = read_one_value value
read_arguments funs.ElementName value = read_two_values value
read_arguments funs.ElementPlace value = read_two_values value
read_arguments funs.ElementKind value = read_two_values value
read_arguments funs.AttributeText value = read_three_values value
read_arguments funs.AttributeNumber value = read_three_values value
read_arguments funs.CellIsUpdateable value = read_two_or_more value
read_arguments funs.IsAncestor value = read_three_values value

-- Primaries.

unfoldable pub read_call : Plan Expr → ScriptFun → Plan Expr
read_call value function = do
  take_sign (codes "(")
  given ← read_arguments function value
  take_sign (codes ")")
  gives (exprs.Call function given)

-- what stands behind a word that isn't reserved
unfoldable pub read_behind_variable : Plan Expr → List ℕ → Option ScriptFun → Plan Expr
read_behind_variable value name (Some function) =
    choose (is_sign (codes "(")) (read_call value function) (gives (exprs.Variable name))
read_behind_variable value name None = gives (exprs.Variable name)

-- what stands behind a word
unfoldable pub read_behind_word : Plan Expr → List ℕ → Option ScriptFun → Plan Expr
read_behind_word value name (Some function) = read_call value function
read_behind_word value name None = read_behind_variable value name (function_in functions_before_parenthesis name)

unfoldable pub read_worded : Plan Expr → Plan Expr
read_worded value = do
  name ← take_one count expression_word
  read_behind_word value name (function_in functions name)

-- a primary but for one in parentheses, by the values and truths inside it
unfoldable pub read_primary : Plan Expr → Plan Expr → Plan Expr
read_primary value truth = choose is_number read_number (choose is_text read_quoted (read_worded value))

-- Expressions, with fewer than so many one inside the other.

abbrev pub read_inner : ℕ → Want → Plan (Expr × Sort)
read_inner left = read_expression count scripts_language read_primary left

unfoldable pub read_value : Plan Expr
read_value = tree_of (read_inner most_inside wants.Value)

unfoldable pub read_truth : Plan Expr
read_truth = tree_of (read_inner most_inside wants.Truth)
