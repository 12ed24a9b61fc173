-- The operators and primaries of rules are a language of expressions, so the reader of formulas is exact.
use Rattle.std.proofs.Common.{codes, refl}
use Rattle.grammar.proofs.Exact.{Exact, Not}
use Rattle.grammar.proofs.Tokens.{sign_begins}
use Rattle.expression_grammar.specs.Expression.{nothing}
use Rattle.expression_grammar.specs.Limits.{most_inside}
use Rattle.expression_grammar.proofs.Languages.{goes_on, IsLanguage}
use Rattle.expression_grammar.proofs.ExpressionExact.{value_exact}
use Rattle.rule_tree.specs.Counting.{count, counting}
use Rattle.rule_tree.specs.Formula.{rules_language, primary, formula}
use Rattle.rule_reader.specs.Readers.Reading.{read_primary, read_formula}
use Rattle.rule_reader.proofs.PrimaryExact.{primary_exact, primary_no_sign, number_sample}

pub rules_are_language : IsLanguage count rules_language primary read_primary
rules_are_language = record {
  filled = refl;
  apart = refl;
  exact = λ no_value no_truth value truth. primary_exact no_value no_truth value truth;
  no_parenthesis = λ V T. primary_no_sign V T (codes "(") (sign_begins (codes "!") (codes "(")) (sign_begins (codes "[") (codes "("));
  no_closing = λ V T. primary_no_sign V T (codes ")") (sign_begins (codes "!") (codes ")")) (sign_begins (codes "[") (codes ")"));
  no_minus = λ V T. primary_no_sign V T (codes "-") (sign_begins (codes "!") (codes "-")) (sign_begins (codes "[") (codes "-"));
  no_tilde = λ V T. primary_no_sign V T (codes "~") (sign_begins (codes "!") (codes "~")) (sign_begins (codes "[") (codes "~"));
  sample = number_sample nothing nothing;
}

pub formula_exact : Exact counting formula formula read_formula (Not (goes_on rules_language))
unfolding read_formula
formula_exact = value_exact rules_are_language most_inside
