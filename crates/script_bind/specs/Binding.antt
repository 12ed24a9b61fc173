-- The bound script of a script.
use Rattle.std.specs.Prelude.{ℕ, ◌+◌, ◌-◌, ◌*◌, List, [], ◌∷◌, map, position, Option, Some, None, if◌then◌else◌}
use Rattle.std.specs.Prelude.{length, bytes_eq}
use Rattle.grammar.specs.Variables.{is_column}
use Rattle.rule_laws.specs.declared.operation.Fun.TheVariants as funs
use Rattle.rule_laws.specs.declared.operation.Op.TheVariants as operations
use Rattle.rule_laws.specs.declared.operation.Op.{Op}
use Rattle.rule_laws.specs.declared.operation.Fun.{Fun}
use Rattle.rule_laws.specs.declared.operation.Rel.TheVariants as rels
use Rattle.script_tree.specs.declared.expr.Expr.{Expr}
use Rattle.script_tree.specs.declared.expr.Expr.TheFolds.{fold-Expr}
use Rattle.script_tree.specs.declared.expr.Expr.TheOpen.{Expr-F}
use Rattle.script_tree.specs.declared.expr.ScriptFun.{ScriptFun}
use Rattle.script_tree.specs.declared.expr.ScriptFun.TheVariants as functions
use Rattle.script_tree.specs.declared.expr.ScriptOp.{ScriptOp}
use Rattle.script_tree.specs.declared.expr.ScriptOp.TheVariants as ops
use Rattle.script_tree.specs.declared.line.Arm.TheFolds.{fold-Arm, fold-Line}
use Rattle.script_tree.specs.declared.line.Arm.TheOpen.{Arm-F, Line-F}
use Rattle.script_tree.specs.declared.line.Line.{Line}
use Rattle.script_tree.specs.declared.line.Arm.{Arm}
use Rattle.script_tree.specs.declared.script.Script.{Script}
use Rattle.script_bound.specs.declared.term.Term.{Term}
use Rattle.script_bound.specs.declared.term.Term.TheVariants as terms
use Rattle.script_bound.specs.declared.term.ElementFun.TheVariants as element_functions
use Rattle.script_bound.specs.declared.term.TextFun.{TextFun}
use Rattle.script_bound.specs.declared.term.TextFun.TheVariants as text_functions
use Rattle.script_bound.specs.declared.statement.Case.{Case}
use Rattle.script_bound.specs.declared.statement.Case.TheVariants as cases
use Rattle.script_bound.specs.declared.statement.Statement.{Statement}
use Rattle.script_bound.specs.declared.statement.Statement.TheVariants as statements
use Rattle.script_bound.specs.declared.script.BoundScript.{BoundScript}
use Rattle.script_bind.specs.declared.operator.Operator.{Operator}
use Rattle.script_bind.specs.declared.operator.Operator.TheVariants as operators
use Rattle.script_bind.specs.Variables.{Words, variables}

-- ---- expressions

-- what no text of the grammar has: it reads a cell without names, which is unknown
abbrev pub nothing : Term
nothing = terms.Get []

abbrev pub found : Words → Option ℕ → ℕ
found words (Some place) = place
found words None = length words

-- the number of a variable: its place among the words
unfoldable pub number_of : Words → List ℕ → ℕ
number_of words word = found words (position (λ other. bytes_eq other word) words)

-- the number that one to four digits write
unfoldable pub column_number : List ℕ → ℕ
column_number (a ∷ []) = a - 48
column_number (a ∷ b ∷ []) = 10 * (a - 48) + (b - 48)
column_number (a ∷ b ∷ c ∷ []) = 100 * (a - 48) + 10 * (b - 48) + (c - 48)
column_number (a ∷ b ∷ c ∷ d ∷ []) = 1000 * (a - 48) + 100 * (b - 48) + 10 * (c - 48) + (d - 48)
column_number _ = 0

-- V1 is the first column
unfoldable pub column_place : List ℕ → ℕ
column_place [] = 0
column_place (letter ∷ digits) = column_number digits - 1

unfoldable pub word_term : Words → List ℕ → Term
word_term words word =
    if is_column word then terms.Column (column_place word) else terms.Variable (number_of words word)

unfoldable pub function_term : Fun → List Term → Term
function_term fun (a ∷ []) = terms.Amount fun a
function_term fun _ = nothing

unfoldable pub operation_term : Op → List Term → Term
operation_term op (a ∷ b ∷ []) = terms.Amounts op a b
operation_term op _ = nothing

unfoldable pub to_number : List Term → Term
to_number (a ∷ []) = terms.ToNumber a
to_number _ = nothing

unfoldable pub to_text : List Term → Term
to_text (a ∷ []) = terms.ToText a
to_text _ = nothing

unfoldable pub altered_term : TextFun → List Term → Term
altered_term function (a ∷ []) = terms.Altered function a
altered_term function _ = nothing

unfoldable pub long_term : List Term → Term
long_term (a ∷ []) = terms.Long a
long_term _ = nothing

unfoldable pub scan_term : List Term → Term
scan_term (part ∷ a ∷ []) = terms.Scan part a
scan_term _ = nothing

unfoldable pub subst_term : List Term → Term
subst_term (a ∷ start ∷ count ∷ []) = terms.Subst a start count
subst_term _ = nothing

unfoldable pub str_term : List Term → Term
str_term (a ∷ width ∷ decimals ∷ []) = terms.Str a width decimals
str_term _ = nothing

unfoldable pub element_name : List Term → Term
element_name (dimension ∷ place ∷ []) = terms.ElementName dimension place
element_name _ = nothing

-- a function with these arguments
unfoldable pub call_term : ScriptFun → List Term → Term
call_term functions.CellGetN arguments = terms.Get arguments
call_term functions.Abs arguments = function_term funs.Abs arguments
call_term functions.Sign arguments = function_term funs.Sign arguments
call_term functions.Int arguments = function_term funs.Int arguments
call_term functions.Round arguments = function_term funs.Round arguments
call_term functions.StringToNumber arguments = to_number arguments
call_term functions.NumberToString arguments = to_text arguments
call_term functions.Max arguments = operation_term operations.Max arguments
call_term functions.Min arguments = operation_term operations.Min arguments
call_term functions.Trim arguments = altered_term text_functions.Trim arguments
call_term functions.Upper arguments = altered_term text_functions.Upper arguments
call_term functions.Lower arguments = altered_term text_functions.Lower arguments
call_term functions.Long arguments = long_term arguments
call_term functions.Scan arguments = scan_term arguments
call_term functions.Subst arguments = subst_term arguments
call_term functions.Str arguments = str_term arguments
call_term functions.Mod arguments = operation_term operations.Mod arguments
call_term functions.RoundP arguments = operation_term operations.RoundTo arguments
call_term functions.Trunc arguments = function_term funs.Trunc arguments
call_term functions.ElementCount arguments = terms.Element element_functions.Count arguments
call_term functions.ElementName arguments = element_name arguments
call_term functions.ElementPlace arguments = terms.Element element_functions.Place arguments
call_term functions.ElementKind arguments = terms.Element element_functions.Kind arguments
call_term functions.AttributeText arguments = terms.Element element_functions.Text arguments
call_term functions.AttributeNumber arguments = terms.Element element_functions.Number arguments
call_term functions.CellIsUpdateable arguments = terms.IsUpdateable arguments
call_term functions.IsAncestor arguments = terms.Element element_functions.IsAncestor arguments

-- an operator, by what its operands are and what it gives
unfoldable pub operator_of : ScriptOp → Operator
operator_of ops.Or = operators.Or
operator_of ops.And = operators.And
operator_of ops.Equal = operators.Compare rels.Equal
operator_of ops.Unequal = operators.Compare rels.Unequal
operator_of ops.Less = operators.Compare rels.Less
operator_of ops.Greater = operators.Compare rels.Greater
operator_of ops.AtMost = operators.Compare rels.AtMost
operator_of ops.AtLeast = operators.Compare rels.AtLeast
operator_of ops.SameText = operators.SameText
operator_of ops.OtherText = operators.OtherText
operator_of ops.Add = operators.Amounts operations.Add
operator_of ops.Sub = operators.Amounts operations.Sub
operator_of ops.Join = operators.Join
operator_of ops.Mul = operators.Amounts operations.Mul
operator_of ops.Div = operators.Amounts operations.Div
operator_of ops.DivSafe = operators.Amounts operations.DivSafe

-- two operands with an operator between them
unfoldable pub operator_term : Operator → Term → Term → Term
operator_term (operators.Amounts op) a b = terms.Amounts op a b
operator_term (operators.Compare rel) a b = terms.Compare rel a b
operator_term operators.Join a b = terms.Join a b
operator_term operators.SameText a b = terms.Same a b
operator_term operators.OtherText a b = terms.Other a b
operator_term operators.And a b = terms.And a b
operator_term operators.Or a b = terms.Or a b

abbrev pub term_step : Words → Expr-F Term → Term
term_step words (Expr-F.Number millionths) = terms.Number millionths
term_step words (Expr-F.Text bytes) = terms.Text bytes
term_step words (Expr-F.Variable word) = word_term words word
term_step words (Expr-F.Call function arguments) = call_term function arguments
term_step words (Expr-F.Minus a) = terms.Amount funs.Minus a
term_step words (Expr-F.Not a) = terms.Not a
term_step words (Expr-F.Binary op a b) = operator_term (operator_of op) a b

-- an expression in which these are the variables
abbrev pub term_of : Words → Expr → Term
term_of words = fold-Expr Term (term_step words)

-- ---- statements

-- a statement with its number, and the number of the one behind it
abbrev pub Numbered : Type 0 → Type 0
Numbered A = ℕ → A × ℕ

-- parts, one behind the other: each begins with the number that the one before it leaves
abbrev pub in_order : {A : Type 0} → List (Numbered A) → Numbered (List A)
in_order [] next = ([], next)
in_order (part ∷ parts) next = ((part next).0 ∷ (in_order parts (part next).1).0, (in_order parts (part next).1).1)

-- the first argument is the value, the others name the cell
unfoldable pub written : List Term → Term × List Term
written (value ∷ names) = (value, names)
written [] = (nothing, [])

abbrev pub arm_step : Words → Arm-F (Numbered Case) (Numbered Statement) → Numbered Case
arm_step words (Arm-F.When test lines) next =
    (cases.When (term_of words test) (in_order lines next).0, (in_order lines next).1)
arm_step words (Arm-F.Otherwise lines) next = (cases.Otherwise (in_order lines next).0, (in_order lines next).1)

-- a statement takes the next number, and those in it take the numbers behind it
abbrev pub line_step : Words → Line-F (Numbered Case) (Numbered Statement) → Numbered Statement
line_step words (Line-F.Assign word given) next =
    (statements.Assign next (number_of words word) (term_of words given), next + 1)
line_step words (Line-F.Put arguments) next = (
  statements.Put next (written (map (term_of words) arguments)).0 (written (map (term_of words) arguments)).1,
  next + 1,
)
line_step words (Line-F.Increment arguments) next = (
  statements.Increment next (written (map (term_of words) arguments)).0 (written (map (term_of words) arguments)).1,
  next + 1,
)
line_step words (Line-F.ZeroOut arguments) next =
    (statements.ZeroOut next (map (term_of words) arguments), next + 1)
line_step words Line-F.Skip next = (statements.Skip next, next + 1)
line_step words Line-F.Break next = (statements.Break next, next + 1)
line_step words Line-F.Error next = (statements.Error next, next + 1)
line_step words (Line-F.If arms) next =
    (statements.If next (in_order arms (next + 1)).0, (in_order arms (next + 1)).1)
line_step words (Line-F.While test lines) next =
    (statements.While next (term_of words test) (in_order lines (next + 1)).0, (in_order lines (next + 1)).1)

abbrev pub statement_of : Words → Line → Numbered Statement
statement_of words = fold-Line (Numbered Case) (Numbered Statement) (arm_step words) (line_step words)

abbrev pub case_of : Words → Arm → Numbered Case
case_of words = fold-Arm (Numbered Case) (Numbered Statement) (arm_step words) (line_step words)

abbrev pub statements_of : Words → List Line → Numbered (List Statement)
statements_of words lines = in_order (map (statement_of words) lines)

abbrev pub cases_of : Words → List Arm → Numbered (List Case)
cases_of words arms = in_order (map (case_of words) arms)

-- the statements of a section, which are numbered from 1
unfoldable pub section_of : Words → List Line → List Statement
section_of words lines = (statements_of words lines 1).0

-- the bound script of a script
abbrev pub bound_of : Script → BoundScript
bound_of script = record {
  variables = variables script;
  prolog = section_of (variables script) script.prolog.lines;
  body = section_of (variables script) script.body.lines;
  epilog = section_of (variables script) script.epilog.lines;
}
