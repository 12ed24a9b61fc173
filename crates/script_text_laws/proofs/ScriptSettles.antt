-- The readers of values and truths in scripts settle on lists that are shorter than the depth that they were given.
use Rattle.std.proofs.Common.{ℕ, suc, List, Option, Some, None, codes}
use Rattle.grammar.specs.Tokens.{is_sign, is_text, is_number}
use Rattle.expression_grammar.specs.Readers.Reading.{read_expression, tree_of}
use Rattle.expression_grammar.specs.declared.sort.Want.{Want}
use Rattle.rule_text_laws.proofs.SettlesBelow.{SettlesBelow, below_gives, below_one, below_both, below_behind_one, below_choose, below_listed}
use Rattle.rule_text_laws.proofs.ExpressionSettles.{below_tree, below_expression}
use Rattle.script_tree.specs.Counting.{count}
use Rattle.script_tree.specs.Expression.{scripts_language, functions, functions_before_parenthesis, function_in, expression_word}
use Rattle.script_tree.specs.declared.expr.Expr.{Expr}
use Rattle.script_tree.specs.declared.expr.ScriptFun.{ScriptFun}
use Rattle.script_tree.specs.declared.expr.ScriptFun.TheVariants as funs
use Rattle.script_reader.specs.Readers.Reading.{Plan, read_number, read_quoted, read_one_value, read_two_values, read_three_values, read_two_or_more, read_arguments, read_call, read_behind_variable, read_behind_word, read_worded, read_primary}

module _ (k : ℕ) (P : Plan Expr) (value : SettlesBelow k P) where
  below_one_value : SettlesBelow k (read_one_value P)
  unfolding read_one_value
  below_one_value = below_both value (λ argument. below_gives _)

  below_two_values : SettlesBelow k (read_two_values P)
  unfolding read_two_values
  below_two_values = below_both value (λ first. below_both (below_one _ _) (λ _. below_both value (λ second. below_gives _)))

  below_three_values : SettlesBelow k (read_three_values P)
  unfolding read_three_values
  below_three_values = below_both value (λ first. below_both (below_one _ _) (λ _. below_both below_two_values (λ rest. below_gives _)))

  below_two_or_more : SettlesBelow k (read_two_or_more P)
  unfolding read_two_or_more
  below_two_or_more = below_both value (λ first. below_both (below_one _ _) (λ _. below_both (below_listed count value) (λ rest. below_gives _)))

  below_arguments : (function : ScriptFun) → SettlesBelow k (read_arguments function P)
  unfolding read_arguments
  below_arguments funs.CellGetN = below_two_or_more
  below_arguments funs.Max = below_two_values
  below_arguments funs.Min = below_two_values
  below_arguments funs.Abs = below_one_value
  below_arguments funs.Sign = below_one_value
  below_arguments funs.Int = below_one_value
  below_arguments funs.Round = below_one_value
  below_arguments funs.StringToNumber = below_one_value
  below_arguments funs.NumberToString = below_one_value
  below_arguments funs.Trim = below_one_value
  below_arguments funs.Upper = below_one_value
  below_arguments funs.Lower = below_one_value
  below_arguments funs.Long = below_one_value
  below_arguments funs.Scan = below_two_values
  below_arguments funs.Subst = below_three_values
  below_arguments funs.Str = below_three_values
  below_arguments funs.Mod = below_two_values
  below_arguments funs.RoundP = below_two_values
  below_arguments funs.Trunc = below_one_value
  below_arguments funs.ElementCount = below_one_value
  below_arguments funs.ElementName = below_two_values
  below_arguments funs.ElementPlace = below_two_values
  below_arguments funs.ElementKind = below_two_values
  below_arguments funs.AttributeText = below_three_values
  below_arguments funs.AttributeNumber = below_three_values
  below_arguments funs.CellIsUpdateable = below_two_or_more
  below_arguments funs.IsAncestor = below_three_values

  below_call : (function : ScriptFun) → SettlesBelow k (read_call P function)
  unfolding read_call
  below_call function = below_both (below_one _ _) (λ _. below_both (below_arguments function) (λ given. below_both (below_one _ _) (λ _. below_gives _)))

  below_behind_variable : (word : List ℕ) (o : Option ScriptFun) → SettlesBelow k (read_behind_variable P word o)
  unfolding read_behind_variable
  below_behind_variable word (Some function) = below_choose (is_sign (codes "(")) (below_call function) (below_gives _)
  below_behind_variable word None = below_gives _

  below_behind_word : (word : List ℕ) (o : Option ScriptFun) → SettlesBelow k (read_behind_word P word o)
  unfolding read_behind_word
  below_behind_word word (Some function) = below_call function
  below_behind_word word None = below_behind_variable word (function_in functions_before_parenthesis word)

  below_worded : SettlesBelow (suc k) (read_worded P)
  unfolding read_worded
  below_worded = below_behind_one count expression_word (λ word. below_behind_word word (function_in functions word))

module _ (k : ℕ) (P Q : Plan Expr) (value : SettlesBelow k P) (truth : SettlesBelow k Q) where
  below_number : SettlesBelow (suc k) read_number
  unfolding read_number
  below_number = below_both (below_one _ _) (λ value. below_gives _)

  below_quoted : SettlesBelow (suc k) read_quoted
  unfolding read_quoted
  below_quoted = below_both (below_one _ _) (λ bytes. below_gives _)

  below_primary : SettlesBelow (suc k) (read_primary P Q)
  unfolding read_primary
  below_primary = below_choose is_number below_number (below_choose is_text below_quoted (below_worded k P value))

pub below_wanted : (want : Want) (k : ℕ) → SettlesBelow k (tree_of (read_expression count scripts_language read_primary k want))
below_wanted want k = below_tree (below_expression count scripts_language read_primary below_primary k want)
