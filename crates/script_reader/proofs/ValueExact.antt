-- The operators and primaries of load scripts are a language of expressions, so the readers of whole ones are exact.
use Rattle.std.proofs.Common.{codes, refl}
use Rattle.grammar.proofs.Exact.{Exact, Not}
use Rattle.expression_grammar.specs.Expression.{nothing}
use Rattle.expression_grammar.specs.Limits.{most_inside}
use Rattle.expression_grammar.proofs.Languages.{goes_on, IsLanguage}
use Rattle.expression_grammar.proofs.ExpressionExact as expressions
use Rattle.script_tree.specs.Counting.{count, counting}
use Rattle.script_tree.specs.Expression.{scripts_language, primary, value, truth}
use Rattle.script_reader.specs.Readers.Reading.{read_primary, read_value, read_truth}
use Rattle.script_reader.proofs.PrimaryExact.{primary_exact, primary_no_sign, number_sample}

scripts_are_language : IsLanguage count scripts_language primary read_primary
scripts_are_language = record {
  filled = refl;
  apart = refl;
  exact = λ no_value no_truth value truth. primary_exact value truth;
  no_parenthesis = λ V T. primary_no_sign V T (codes "(");
  no_closing = λ V T. primary_no_sign V T (codes ")");
  no_minus = λ V T. primary_no_sign V T (codes "-");
  no_tilde = λ V T. primary_no_sign V T (codes "~");
  sample = number_sample nothing nothing;
}

pub value_exact : Exact counting value value read_value (Not (goes_on scripts_language))
unfolding read_value
value_exact = expressions.value_exact scripts_are_language most_inside

pub truth_exact : Exact counting truth truth read_truth (Not (goes_on scripts_language))
unfolding read_truth
truth_exact = expressions.truth_exact scripts_are_language most_inside
