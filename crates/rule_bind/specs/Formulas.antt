-- What a formula means: as a value, by where it stands, and as a truth.
use Rattle.std.specs.Prelude.{ℕ, List, [], ◌∷◌, map, Err}
use Rattle.cube_space.specs.Layout.{Layout}
use Rattle.rule_laws.specs.declared.formula.Formula.{Formula}
use Rattle.rule_laws.specs.declared.formula.Formula.TheVariants as formulas
use Rattle.rule_laws.specs.declared.formula.Truth.{Truth}
use Rattle.rule_laws.specs.declared.formula.Truth.TheVariants as truths
use Rattle.rule_laws.specs.declared.operation.Op.{Op}
use Rattle.rule_laws.specs.declared.operation.Fun.{Fun}
use Rattle.rule_laws.specs.declared.operation.Fun.TheVariants as funs
use Rattle.rule_tree.specs.declared.tree.SimpleText.{SimpleText}
use Rattle.rule_tree.specs.declared.tree.Tree.{Tree}
use Rattle.rule_tree.specs.declared.tree.Tree.TheFolds.{para-Tree}
use Rattle.rule_tree.specs.declared.tree.Tree.TheOpen.{Tree-F}
use Rattle.bind_areas.specs.declared.cause.BindCause.TheVariants.{WrongCount, Unsupported}
use Rattle.bind_areas.specs.Meaning.{Meaning, done, ◌>>=◌}
use Rattle.bind_areas.specs.Areas.{bracket_of}
use Rattle.rule_bind.specs.declared.function.Function.{Function}
use Rattle.rule_bind.specs.declared.function.Function.TheVariants as functions
use Rattle.rule_bind.specs.declared.operator.Operator.{Operator}
use Rattle.rule_bind.specs.declared.operator.Operator.TheVariants as operators
use Rattle.rule_bind.specs.declared.standing.Standing.{Standing}
use Rattle.rule_bind.specs.declared.standing.Standing.TheVariants.{Part, ConsolidatedPart, Within}
use Rattle.rule_bind.specs.Functions.{function_of, operator_of}
use Rattle.rule_bind.specs.References.{db_of, children_of}
use Rattle.rule_bind.specs.OwnNumbers.{own_call}
use Rattle.rule_bind.specs.Texts.{texts_truth}
use Rattle.rule_bind.specs.Sureness.{Sets, comparison}
use Rattle.rule_bind.specs.DimensionSize.{size_call}

-- what a formula means as a value, by where it stands, and as a truth
pub record Meanings : Type 0 where
  pub value : Standing → Meaning Formula
  pub truth : Meaning Truth

-- a formula with what it means
abbrev pub Meant : Type 0
Meant = Tree × Meanings

-- STET or CONTINUE: it stands as a part, or as a branch of an IF that does
abbrev pub alone : Formula → Standing → Meaning Formula
alone f Part = done f
alone f ConsolidatedPart = done f
alone f Within = Err Unsupported

-- ConsolidateChildren: the same, of a part for consolidated cells alone
abbrev pub children : Layout → ℕ → Standing → Tree → Meaning Formula
children space cube Part tree = Err Unsupported
children space cube ConsolidatedPart tree = do dim ← children_of space cube tree; done (formulas.Children dim)
children space cube Within tree = Err Unsupported

-- a reference to another cell of the cube
abbrev pub bracket : Layout → ℕ → List SimpleText → Meaning Formula
bracket space cube simples = do r ← bracket_of space cube simples; done (formulas.Ref r)

abbrev pub db : Layout → ℕ → List Tree → Meaning Formula
db space cube trees = do r ← db_of space cube trees; done (formulas.Ref r)

abbrev pub unary : Fun → Meant → Meaning Formula
unary function m = do a ← m.1.value Within; done (formulas.Unary function a)

abbrev pub binary : Op → Meant → Meant → Meaning Formula
binary op left right = do
  a ← left.1.value Within
  b ← right.1.value Within
  done (formulas.Binary op a b)

-- the branches of an IF stand where it does
abbrev pub choice : Standing → Meant → Meant → Meant → Meaning Formula
choice at condition left right = do
  q ← condition.1.truth
  a ← left.1.value at
  b ← right.1.value at
  done (formulas.If q a b)

-- a function with these arguments; a wrong number of them stands at its word, and so before their faults
abbrev pub choice_call : Standing → List Meant → Meaning Formula
choice_call at (condition ∷ left ∷ right ∷ []) = choice at condition left right
choice_call at _ = Err WrongCount

abbrev pub unary_call : Fun → List Meant → Meaning Formula
unary_call function (m ∷ []) = unary function m
unary_call function _ = Err WrongCount

abbrev pub binary_call : Op → List Meant → Meaning Formula
binary_call op (left ∷ right ∷ []) = binary op left right
binary_call op _ = Err WrongCount

abbrev pub children_call : Layout → ℕ → Standing → List Meant → Meaning Formula
children_call space cube at (dim ∷ []) = children space cube at dim.0
children_call space cube at _ = Err WrongCount

abbrev pub call_value : Layout → ℕ → Standing → Function → List Meant → Meaning Formula
call_value space cube at functions.If arguments = choice_call at arguments
call_value space cube at functions.Db arguments = db space cube (map (λ m. m.0) arguments)
call_value space cube at functions.Children arguments = children_call space cube at arguments
call_value space cube at (functions.One function) arguments = unary_call function arguments
call_value space cube at (functions.Two op) arguments = binary_call op arguments
call_value space cube at (functions.Own function) arguments =
    own_call space cube function (map (λ m. m.0) arguments)
call_value space cube at functions.Size arguments = size_call space (map (λ m. m.0) arguments)
call_value space cube at functions.Other arguments = Err Unsupported

abbrev pub operator_value : Operator → Meant → Meant → Meaning Formula
operator_value (operators.Operation op) left right = binary op left right
operator_value _ left right = Err Unsupported

abbrev pub value_step : Layout → ℕ → Standing → Tree-F Meant → Meaning Formula
value_step space cube at (Tree-F.Number k) = done (formulas.Number k)
value_step space cube at (Tree-F.Text bytes) = Err Unsupported
value_step space cube at (Tree-F.Current dim) = Err Unsupported
value_step space cube at (Tree-F.Bracket simples) = bracket space cube simples
value_step space cube at Tree-F.Stet = alone formulas.Stet at
value_step space cube at Tree-F.Continue = alone formulas.Continue at
value_step space cube at (Tree-F.Call word arguments) = call_value space cube at (function_of word) arguments
value_step space cube at (Tree-F.Minus m) = unary funs.Minus m
value_step space cube at (Tree-F.Not m) = Err Unsupported
value_step space cube at (Tree-F.Binary op left right) = operator_value (operator_of op) left right

abbrev pub operator_truth : Layout → ℕ → Sets → Operator → Meant → Meant → Meaning Truth
operator_truth space cube sets (operators.Comparison rel) left right = do
  a ← left.1.value Within
  b ← right.1.value Within
  done (comparison space cube sets rel a b)
operator_truth space cube sets operators.And left right = do
  p ← left.1.truth
  q ← right.1.truth
  done (truths.And p q)
operator_truth space cube sets operators.Or left right = do
  p ← left.1.truth
  q ← right.1.truth
  done (truths.Or p q)
operator_truth space cube sets (operators.Texts rel) left right = texts_truth space cube sets rel left.0 right.0
operator_truth space cube sets (operators.Operation op) left right = Err Unsupported

abbrev pub truth_step : Layout → ℕ → Sets → Tree-F Meant → Meaning Truth
truth_step space cube sets (Tree-F.Not m) = do q ← m.1.truth; done (truths.Not q)
truth_step space cube sets (Tree-F.Binary op left right) = operator_truth space cube sets (operator_of op) left right
truth_step space cube sets _ = Err Unsupported

abbrev pub meanings_step : Layout → ℕ → Sets → Tree-F Meant → Meanings
meanings_step space cube sets layer =
    record { value = λ at. value_step space cube at layer; truth = truth_step space cube sets layer }

-- what a formula in a statement of a cube means, by what is known of the statement's area
unfoldable pub meanings : Layout → ℕ → Sets → Tree → Meanings
meanings space cube sets = para-Tree Meanings (meanings_step space cube sets)

abbrev pub value_of : Layout → ℕ → Sets → Standing → Tree → Meaning Formula
value_of space cube sets at tree = (meanings space cube sets tree).value at

abbrev pub truth_of : Layout → ℕ → Sets → Tree → Meaning Truth
truth_of space cube sets tree = (meanings space cube sets tree).truth

abbrev pub meant : Layout → ℕ → Sets → Tree → Meant
meant space cube sets tree = (tree, meanings space cube sets tree)
