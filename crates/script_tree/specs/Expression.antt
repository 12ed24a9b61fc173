-- The grammar of expressions in load scripts: the operators, and the primaries but for parentheses.
use Rattle.std.specs.Prelude.{ℕ, not, ◌&&◌, List, [], ◌∷◌, Option, Some, None, codes, bytes_eq, if◌then◌else◌}
use Rattle.cube_lex.specs.Lexeme.{Lexeme}
use Rattle.grammar.specs.Grammar.{Grammar, done, one, either, ◌>>=◌, ◌>>◌}
use Rattle.grammar.specs.Lists.{listed}
use Rattle.grammar.specs.Tokens.{sign, text, money, when, is_word_kind, capitals}
use Rattle.grammar.specs.Variables.{is_among, statement_words}
use Rattle.expression_grammar.specs.Language.{Table, Language}
use Rattle.expression_grammar.specs.Expression.{Primaries, expression}
use Rattle.expression_grammar.specs.declared.sort.Sort.TheVariants as sorts
use Rattle.script_tree.specs.declared.expr.Expr.{Expr}
use Rattle.script_tree.specs.declared.expr.Expr.TheVariants as exprs
use Rattle.script_tree.specs.declared.expr.ScriptFun.{ScriptFun}
use Rattle.script_tree.specs.declared.expr.ScriptFun.TheVariants as funs
use Rattle.script_tree.specs.declared.expr.ScriptOp.{ScriptOp}
use Rattle.script_tree.specs.declared.expr.ScriptOp.TheVariants as ops

-- The operators, level by level.

abbrev pub ors : Table ScriptOp
ors = (codes "%", ops.Or) ∷ []

abbrev pub ands : Table ScriptOp
ands = (codes "&", ops.And) ∷ []

abbrev pub relations : Table ScriptOp
relations = (codes "=", ops.Equal) ∷ (codes "<>", ops.Unequal) ∷ (codes "<", ops.Less) ∷ (codes ">", ops.Greater)
    ∷ (codes "<=", ops.AtMost) ∷ (codes ">=", ops.AtLeast) ∷ (codes "@=", ops.SameText) ∷ (codes "@<>", ops.OtherText)
    ∷ []

abbrev pub sums : Table ScriptOp
sums = (codes "+", ops.Add) ∷ (codes "-", ops.Sub) ∷ (codes "|", ops.Join) ∷ []

abbrev pub products : Table ScriptOp
products = (codes "*", ops.Mul) ∷ (codes "/", ops.Div) ∷ (codes "\\", ops.DivSafe) ∷ []

abbrev pub scripts_language : Language Expr ScriptOp
scripts_language = record {
  or = ors;
  and = ands;
  relation = relations;
  sum = sums;
  product = products;
  joined = λ o left right. exprs.Binary o left right;
  negated = λ e. exprs.Minus e;
  opposite = λ e. exprs.Not e;
}

abbrev pub number : Grammar Lexeme Expr
number = do value ← one money; done (exprs.Number value)

abbrev pub quoted : Grammar Lexeme Expr
quoted = do bytes ← one text; done (exprs.Text bytes)

-- The functions.

-- those whose words are reserved
abbrev pub functions : List (List ℕ × ScriptFun)
functions = (codes "CELLGETN", funs.CellGetN) ∷ (codes "ABS", funs.Abs) ∷ (codes "SIGN", funs.Sign)
    ∷ (codes "INT", funs.Int) ∷ (codes "ROUND", funs.Round) ∷ (codes "STRINGTONUMBER", funs.StringToNumber)
    ∷ (codes "NUMBERTOSTRING", funs.NumberToString) ∷ (codes "MAX", funs.Max) ∷ (codes "MIN", funs.Min) ∷ []

-- those that ask for elements and cells: their words name variables where no `(` stands behind them
abbrev pub functions_of_elements : List (List ℕ × ScriptFun)
functions_of_elements = (codes "DIMSIZ", funs.ElementCount) ∷ (codes "DIMNM", funs.ElementName)
    ∷ (codes "DIMIX", funs.ElementPlace) ∷ (codes "DTYPE", funs.ElementKind) ∷ (codes "ATTRS", funs.AttributeText)
    ∷ (codes "ATTRN", funs.AttributeNumber) ∷ (codes "CELLISUPDATEABLE", funs.CellIsUpdateable)
    ∷ (codes "ELISANC", funs.IsAncestor) ∷ []

-- those whose words are functions before a `(` alone, and name variables elsewhere
abbrev pub functions_before_parenthesis : List (List ℕ × ScriptFun)
functions_before_parenthesis = (codes "TRIM", funs.Trim) ∷ (codes "UPPER", funs.Upper) ∷ (codes "LOWER", funs.Lower)
    ∷ (codes "LONG", funs.Long) ∷ (codes "SCAN", funs.Scan) ∷ (codes "SUBST", funs.Subst) ∷ (codes "STR", funs.Str)
    ∷ (codes "NUMBR", funs.StringToNumber) ∷ (codes "MOD", funs.Mod) ∷ (codes "ROUNDP", funs.RoundP)
    ∷ (codes "TRUNC", funs.Trunc) ∷ functions_of_elements

-- the function of this word, if there is one
abbrev pub function_in : List (List ℕ × ScriptFun) → List ℕ → Option ScriptFun
function_in [] word = None
function_in (entry ∷ table) word = if bytes_eq word entry.0 then Some entry.1 else function_in table word

-- Arguments, which are values.

abbrev pub one_value : Grammar Lexeme Expr → Grammar Lexeme (List Expr)
one_value value = do argument ← value; done (argument ∷ [])

abbrev pub two_values : Grammar Lexeme Expr → Grammar Lexeme (List Expr)
two_values value = do
  first ← value
  one (sign (codes ","))
  second ← value
  done (first ∷ second ∷ [])

-- an argument more than these
abbrev pub and_more : Grammar Lexeme Expr → Grammar Lexeme (List Expr) → Grammar Lexeme (List Expr)
and_more value others = do
  first ← value
  one (sign (codes ","))
  rest ← others
  done (first ∷ rest)

abbrev pub three_values : Grammar Lexeme Expr → Grammar Lexeme (List Expr)
three_values value = and_more value (two_values value)

abbrev pub two_or_more : Grammar Lexeme Expr → Grammar Lexeme (List Expr)
two_or_more value = and_more value (listed value value)

abbrev pub three_or_more : Grammar Lexeme Expr → Grammar Lexeme (List Expr)
three_or_more value = and_more value (two_or_more value)

-- as many arguments as the function takes
abbrev pub arguments : ScriptFun → Grammar Lexeme Expr → Grammar Lexeme (List Expr)
arguments funs.CellGetN value = two_or_more value
arguments funs.Max value = two_values value
arguments funs.Min value = two_values value
arguments funs.Abs value = one_value value
arguments funs.Sign value = one_value value
arguments funs.Int value = one_value value
arguments funs.Round value = one_value value
arguments funs.StringToNumber value = one_value value
arguments funs.NumberToString value = one_value value
arguments funs.Trim value = one_value value
arguments funs.Upper value = one_value value
arguments funs.Lower value = one_value value
arguments funs.Long value = one_value value
arguments funs.Scan value = two_values value
arguments funs.Subst value = three_values value
arguments funs.Str value = three_values value
arguments funs.Mod value = two_values value
arguments funs.RoundP value = two_values value
arguments funs.Trunc value = one_value value
arguments funs.ElementCount value = one_value value
arguments funs.ElementName value = two_values value
arguments funs.ElementPlace value = two_values value
arguments funs.ElementKind value = two_values value
arguments funs.AttributeText value = three_values value
arguments funs.AttributeNumber value = three_values value
arguments funs.CellIsUpdateable value = two_or_more value
arguments funs.IsAncestor value = three_values value

-- a function's arguments, in their parentheses
abbrev pub call : Grammar Lexeme Expr → ScriptFun → Grammar Lexeme Expr
call value function = do
  one (sign (codes "("))
  given ← arguments function value
  one (sign (codes ")"))
  done (exprs.Call function given)

-- what stands behind a word that isn't reserved: that of a function is called or names a variable, and any other is a
-- variable or a column
abbrev pub behind_variable : Grammar Lexeme Expr → List ℕ → Option ScriptFun → Grammar Lexeme Expr
behind_variable value word (Some function) = either (call value function) (done (exprs.Variable word))
behind_variable value word None = done (exprs.Variable word)

-- what stands behind a word: a reserved function's arguments, or what stands behind any other word
abbrev pub behind_word : Grammar Lexeme Expr → List ℕ → Option ScriptFun → Grammar Lexeme Expr
behind_word value word (Some function) = call value function
behind_word value word None = behind_variable value word (function_in functions_before_parenthesis word)

-- a word that is no statement word, in capitals
abbrev pub expression_word : Lexeme → Option (List ℕ)
expression_word = when (λ t. is_word_kind t.kind && not (is_among statement_words (capitals t.piece)))
    (λ t. capitals t.piece)

-- Word | function "(" expression { "," expression } ")"; the word of a variable may be that of a function that isn't
-- reserved
abbrev pub worded : Grammar Lexeme Expr → Grammar Lexeme Expr
worded value = do word ← one expression_word; behind_word value word (function_in functions word)

-- a primary but for one in parentheses; truths stand in conditions alone
abbrev pub primary : Primaries Expr
primary value truth = either number (either quoted (worded value))

-- a whole expression that is a value, and one that is a truth
abbrev pub value : Grammar Lexeme Expr
value = expression scripts_language primary sorts.Value

abbrev pub truth : Grammar Lexeme Expr
truth = expression scripts_language primary sorts.Truth
