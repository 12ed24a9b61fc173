-- Which functions are values, and what operators mean.
use Rattle.std.specs.Prelude.{ℕ, List, codes, bytes_eq, if◌then◌else◌}
use Rattle.rule_laws.specs.declared.operation.Op.TheVariants as ops
use Rattle.rule_laws.specs.declared.operation.Fun.TheVariants as funs
use Rattle.rule_laws.specs.declared.operation.Rel.TheVariants as rels
use Rattle.rule_tree.specs.declared.tree.TreeOp.{TreeOp}
use Rattle.rule_tree.specs.declared.tree.TreeOp.TheVariants as signs
use Rattle.rule_bind.specs.declared.operator.Operator.{Operator}
use Rattle.rule_bind.specs.declared.operator.Operator.TheVariants as operators
use Rattle.rule_bind.specs.declared.function.Function.{Function}
use Rattle.rule_bind.specs.declared.function.Function.TheVariants as functions
use Rattle.rule_bind.specs.declared.function.OwnFunction.TheVariants as own

-- a function of the cell's own element by its word
abbrev pub own_function : List ℕ → Function
own_function word =
    if bytes_eq word (codes "DIMIX") then functions.Own own.Place
    else if bytes_eq word (codes "ELLEV") then functions.Own own.Level
    else if bytes_eq word (codes "ELISPAR") then functions.Own own.HasParent
    else if bytes_eq word (codes "ELISANC") then functions.Own own.HasAncestor
    else if bytes_eq word (codes "ELISCOMP") then functions.Own own.IsComponent
    else if bytes_eq word (codes "ATTRN") then functions.Own own.Attribute
    else if bytes_eq word (codes "ELCOMPN") then functions.Own own.ComponentCount
    else if bytes_eq word (codes "ELPARN") then functions.Own own.ParentCount
    else functions.Other

-- a function of values by its word
abbrev pub value_function : List ℕ → Function
value_function word =
    if bytes_eq word (codes "ABS") then functions.One funs.Abs
    else if bytes_eq word (codes "SIGN") then functions.One funs.Sign
    else if bytes_eq word (codes "INT") then functions.One funs.Int
    else if bytes_eq word (codes "ROUND") then functions.One funs.Round
    else if bytes_eq word (codes "TRUNC") then functions.One funs.Trunc
    else if bytes_eq word (codes "MAX") then functions.Two ops.Max
    else if bytes_eq word (codes "MIN") then functions.Two ops.Min
    else if bytes_eq word (codes "MOD") then functions.Two ops.Mod
    else if bytes_eq word (codes "ROUNDP") then functions.Two ops.RoundTo
    else own_function word

-- a function by its word in capitals
abbrev pub function_of : List ℕ → Function
function_of word =
    if bytes_eq word (codes "IF") then functions.If
    else if bytes_eq word (codes "DB") then functions.Db
    else if bytes_eq word (codes "CONSOLIDATECHILDREN") then functions.Children
    else if bytes_eq word (codes "DIMSIZ") then functions.Size
    else value_function word

-- what an operator means
abbrev pub operator_of : TreeOp → Operator
operator_of signs.Or = operators.Or
operator_of signs.And = operators.And
operator_of signs.Equal = operators.Comparison rels.Equal
operator_of signs.Unequal = operators.Comparison rels.Unequal
operator_of signs.Less = operators.Comparison rels.Less
operator_of signs.Greater = operators.Comparison rels.Greater
operator_of signs.AtMost = operators.Comparison rels.AtMost
operator_of signs.AtLeast = operators.Comparison rels.AtLeast
operator_of signs.Same = operators.Texts rels.Equal
operator_of signs.Other = operators.Texts rels.Unequal
operator_of signs.Add = operators.Operation ops.Add
operator_of signs.Sub = operators.Operation ops.Sub
operator_of signs.Mul = operators.Operation ops.Mul
operator_of signs.Div = operators.Operation ops.Div
operator_of signs.DivSafe = operators.Operation ops.DivSafe
