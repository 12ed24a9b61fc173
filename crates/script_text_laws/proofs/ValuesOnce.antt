-- Values and truths in scripts have one tree, and so have lists of values.
use Rattle.std.proofs.Common.{List, ◌∷◌, ◌++◌, false, codes, refl, sym, subst}
use Rattle.cube_lex.specs.Lexeme.{Lexeme}
use Rattle.grammar.specs.Grammar.{Grammar, both, done, many}
use Rattle.grammar.specs.Lists.{next, listed}
use Rattle.grammar.specs.Tokens.{sign, is_sign}
use Rattle.grammar.proofs.Begins.{begins_both, made_is, starts_many}
use Rattle.grammar.proofs.Exact.{Not}
use Rattle.grammar.proofs.Lists.{BehindList, next_begins, next_tells}
use Rattle.expression_grammar.specs.Expression.{nothing}
use Rattle.expression_grammar.specs.Readers.Reading.{read_expression, tree_of}
use Rattle.expression_grammar.specs.declared.sort.Want.TheVariants as wants
use Rattle.expression_grammar.proofs.ExpressionExact.{value_exact, truth_exact}
use Rattle.expression_grammar.proofs.Languages.{goes_on, IsLanguage}
use Rattle.rule_text_laws.proofs.OneTree.{OneTree, once_read, once_one, once_done, once_both, once_then, once_before_next, once_many}
use Rattle.script_tree.specs.Counting.{count}
use Rattle.script_tree.specs.Expression.{scripts_language, primary, value, truth, and_more, two_or_more, three_or_more}
use Rattle.script_tree.specs.declared.expr.Expr.{Expr}
use Rattle.script_reader.specs.Readers.Reading.{read_primary}
use Rattle.script_reader.proofs.PrimaryExact.{comma, primary_exact, primary_no_sign, number_sample}
use Rattle.script_text_laws.proofs.ScriptSettles.{below_wanted}

scripts_are_language : IsLanguage count scripts_language primary read_primary
scripts_are_language = record {
  filled = refl;
  apart = refl;
  exact = λ no_value no_truth value truth. primary_exact value truth;
  no_parenthesis = λ V T. primary_no_sign V T (codes "(");
  no_closing = λ V T. primary_no_sign V T (codes ")");
  no_minus = λ V T. primary_no_sign V T (codes "-");
  no_tilde = λ V T. primary_no_sign V T (codes "~");
  sample = number_sample nothing nothing;
}

-- What has a reader that settles.

pub value_once : OneTree count value (Not (goes_on scripts_language))
value_once = once_read (λ k. tree_of (read_expression count scripts_language read_primary k wants.Value)) (λ k. value_exact scripts_are_language k) (below_wanted wants.Value)

pub truth_once : OneTree count truth (Not (goes_on scripts_language))
truth_once = once_read (λ k. tree_of (read_expression count scripts_language read_primary k wants.Truth)) (λ k. truth_exact scripts_are_language k) (below_wanted wants.Truth)

-- what a text is made into
pub once_made : {A B : Type 0} {G : Grammar Lexeme A} {S : List Lexeme → Type 0} (make : A → B) → OneTree count G S → OneTree count (both G (λ a. done (make a))) S
once_made {S = S} make e = once_both {S' = S} e (λ a. once_done (make a)) (λ a v b rest h stops. subst (λ z. S (z ++ rest)) (sym h.0) stops)

-- Lists.

-- { "," value }
further_once : (first : Expr) → OneTree count (both (many (next value)) (λ rest. done (first ∷ rest))) (BehindList (goes_on scripts_language))
further_once first = once_made (λ rest. first ∷ rest) (once_many {S = Not (goes_on scripts_language)} {S' = BehindList (goes_on scripts_language)} (is_sign (codes ",")) (next_begins value) (λ rest stops. stops.comma)
    (λ list v rest h stops. starts_many (next_tells value (goes_on scripts_language) false comma) list v rest h stops.item)
    (once_then (once_one (sign (codes ","))) (λ _. value_once)))

-- value { "," value }
values_once : OneTree count (listed value value) (BehindList (goes_on scripts_language))
values_once = once_both {S' = BehindList (goes_on scripts_language)} value_once further_once
    (λ first v list rest h stops. (let (others, more) = made_is (many (next value)) (λ others. first ∷ others) v list h in starts_many (next_tells value (goes_on scripts_language) false comma) others v rest more stops.item))

-- a value before these
more_once : {others : Grammar Lexeme (List Expr)} → OneTree count others (BehindList (goes_on scripts_language)) → OneTree count (and_more value others) (BehindList (goes_on scripts_language))
more_once e = once_before_next value_once (λ first. once_then (once_one (sign (codes ","))) (λ _. once_made (λ rest. first ∷ rest) e)) (λ first. begins_both comma)

pub two_once : OneTree count (two_or_more value) (BehindList (goes_on scripts_language))
two_once = more_once values_once

pub three_once : OneTree count (three_or_more value) (BehindList (goes_on scripts_language))
three_once = more_once {others = two_or_more value} two_once
