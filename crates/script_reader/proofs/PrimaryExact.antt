-- The readers of arguments and primaries are exact, if that of the values inside them is.
use Rattle.std.proofs.Common.{ℕ, List, [], ◌∷◌, Option, Some, None, true, false, not, ◌&&◌, codes, refl, inl}
use Rattle.cube_lex.specs.Lexeme.{Lexeme}
use Rattle.cube_lex.specs.declared.token.Kind.TheVariants as kinds
use Rattle.grammar.specs.Grammar.{Grammar, one, done}
use Rattle.grammar.specs.Reading.{take_one}
use Rattle.grammar.specs.Tokens.{sign, is_sign, is_text, is_number, is_word_kind, is_text_kind, is_number_kind, capitals}
use Rattle.grammar.specs.Variables.{is_among, statement_words}
use Rattle.grammar.proofs.Exact.{Exact, Always, Not, exact_one, exact_gives, exact_then, exact_both, exact_made, exact_before}
use Rattle.grammar.proofs.Begins.{Begins, begins_both, begins_either, exact_or, exact_option, exact_before_next}
use Rattle.grammar.proofs.Lists.{BehindList, listed_exact, behind_list}
use Rattle.grammar.proofs.Tokens.{TakesWords, when_picks, and_is, sign_begins, exact_sign, exact_text, exact_money, value_no_sign, words_no_sign, text_is_value, money_is_value}
use Rattle.expression_grammar.proofs.Languages.{goes_on}
use Rattle.expression_grammar.proofs.ExpressionExact.{sign_goes_on}
use Rattle.expression_grammar.proofs.TokenKinds.{HasKind, kind_begins, word_is, one_kind, text_kind, money_kind}
use Rattle.script_tree.specs.Counting.{count, counting}
use Rattle.script_tree.specs.Expression.{scripts_language, number, quoted, functions, functions_before_parenthesis, function_in, one_value, two_values, three_values, two_or_more, three_or_more, arguments, call, behind_variable, behind_word, expression_word, worded, primary}
use Rattle.script_reader.specs.Readers.Reading.{Plan, read_number, read_quoted, read_one_value, read_two_values, read_three_values, read_two_or_more, read_three_or_more, read_arguments, read_call, read_behind_variable, read_behind_word, read_worded, read_primary}
use Rattle.script_tree.specs.declared.expr.Expr.{Expr}
use Rattle.script_tree.specs.declared.expr.Expr.TheVariants as exprs
use Rattle.script_tree.specs.declared.expr.ScriptFun.{ScriptFun}
use Rattle.script_tree.specs.declared.expr.ScriptFun.TheVariants as funs

number_exact : Exact counting number number read_number Always
unfolding read_number
number_exact = exact_made (λ value. exprs.Number value) (exact_money count)

quoted_exact : Exact counting quoted quoted read_quoted Always
unfolding read_quoted
quoted_exact = exact_made (λ bytes. exprs.Text bytes) (exact_text count)

-- `A`
exact_expression_word : Exact counting (one expression_word) (one expression_word) (take_one count expression_word) Always
exact_expression_word = exact_one count expression_word (record { kind = kinds.Word; piece = 65 ∷ []; start = 0; line = 0 }) (65 ∷ []) refl

expression_words : TakesWords expression_word
expression_words = record { kind = λ t a e. (and_is (is_word_kind t.kind) (not (is_among statement_words (capitals t.piece))) (when_picks (λ t. is_word_kind t.kind && not (is_among statement_words (capitals t.piece))) (λ t. capitals t.piece) t a e).0).0 }

expression_word_kind : HasKind (one expression_word) kinds.Word
expression_word_kind = one_kind expression_word kinds.Word (λ t a e. word_is t.kind (expression_words.kind t a e))

pub comma : Begins (one (sign (codes ","))) (goes_on scripts_language) false
comma = sign_goes_on scripts_language (codes ",")

pub closing : Begins (one (sign (codes ")"))) (goes_on scripts_language) false
closing = sign_goes_on scripts_language (codes ")")

-- with an exact reader of what is inside
module _ {V V' : Grammar Lexeme Expr} {P : Plan Expr} (value : Exact counting V V' P (Not (goes_on scripts_language))) where
  one_value_exact : Exact counting (one_value V) (one_value V') (read_one_value P) (Not (goes_on scripts_language))
  unfolding read_one_value
  one_value_exact = exact_made (λ argument. argument ∷ []) value

  two_values_exact : Exact counting (two_values V) (two_values V') (read_two_values P) (Not (goes_on scripts_language))
  unfolding read_two_values
  two_values_exact = exact_before_next value (λ first. exact_then (exact_sign count (codes ",")) (λ _. exact_made (λ second. first ∷ second ∷ []) value)) (λ first. begins_both comma)

  three_values_exact : Exact counting (three_values V) (three_values V') (read_three_values P) (Not (goes_on scripts_language))
  unfolding read_three_values
  three_values_exact = exact_before_next value (λ first. exact_then (exact_sign count (codes ",")) (λ _. exact_made (λ rest. first ∷ rest) two_values_exact)) (λ first. begins_both comma)

  pub two_or_more_exact : Exact counting (two_or_more V) (two_or_more V') (read_two_or_more P) (BehindList (goes_on scripts_language))
  unfolding read_two_or_more
  two_or_more_exact = exact_before_next value (λ first. exact_then (exact_sign count (codes ",")) (λ _. exact_made (λ rest. first ∷ rest) (listed_exact (goes_on scripts_language) comma value))) (λ first. begins_both comma)

  pub three_or_more_exact : Exact counting (three_or_more V) (three_or_more V') (read_three_or_more P) (BehindList (goes_on scripts_language))
  unfolding read_three_or_more
  three_or_more_exact = exact_before_next value (λ first. exact_then (exact_sign count (codes ",")) (λ _. exact_made (λ rest. first ∷ rest) two_or_more_exact)) (λ first. begins_both comma)

  arguments_exact : (function : ScriptFun) → Exact counting (arguments function V) (arguments function V') (read_arguments function P) (BehindList (goes_on scripts_language))
  unfolding read_arguments
  arguments_exact funs.CellGetN = two_or_more_exact
  arguments_exact funs.Max = exact_before (λ rest stops. stops.item) two_values_exact
  arguments_exact funs.Min = exact_before (λ rest stops. stops.item) two_values_exact
  arguments_exact funs.Abs = exact_before (λ rest stops. stops.item) one_value_exact
  arguments_exact funs.Sign = exact_before (λ rest stops. stops.item) one_value_exact
  arguments_exact funs.Int = exact_before (λ rest stops. stops.item) one_value_exact
  arguments_exact funs.Round = exact_before (λ rest stops. stops.item) one_value_exact
  arguments_exact funs.StringToNumber = exact_before (λ rest stops. stops.item) one_value_exact
  arguments_exact funs.NumberToString = exact_before (λ rest stops. stops.item) one_value_exact
  arguments_exact funs.Trim = exact_before (λ rest stops. stops.item) one_value_exact
  arguments_exact funs.Upper = exact_before (λ rest stops. stops.item) one_value_exact
  arguments_exact funs.Lower = exact_before (λ rest stops. stops.item) one_value_exact
  arguments_exact funs.Long = exact_before (λ rest stops. stops.item) one_value_exact
  arguments_exact funs.Scan = exact_before (λ rest stops. stops.item) two_values_exact
  arguments_exact funs.Subst = exact_before (λ rest stops. stops.item) three_values_exact
  arguments_exact funs.Str = exact_before (λ rest stops. stops.item) three_values_exact
  arguments_exact funs.Mod = exact_before (λ rest stops. stops.item) two_values_exact
  arguments_exact funs.RoundP = exact_before (λ rest stops. stops.item) two_values_exact
  arguments_exact funs.Trunc = exact_before (λ rest stops. stops.item) one_value_exact
  arguments_exact funs.ElementCount = exact_before (λ rest stops. stops.item) one_value_exact
  arguments_exact funs.ElementName = exact_before (λ rest stops. stops.item) two_values_exact
  arguments_exact funs.ElementPlace = exact_before (λ rest stops. stops.item) two_values_exact
  arguments_exact funs.ElementKind = exact_before (λ rest stops. stops.item) two_values_exact
  arguments_exact funs.AttributeText = exact_before (λ rest stops. stops.item) three_values_exact
  arguments_exact funs.AttributeNumber = exact_before (λ rest stops. stops.item) three_values_exact
  arguments_exact funs.CellIsUpdateable = two_or_more_exact
  arguments_exact funs.IsAncestor = exact_before (λ rest stops. stops.item) three_values_exact

  call_exact : (function : ScriptFun) → Exact counting (call V function) (call V' function) (read_call P function) Always
  unfolding read_call
  call_exact function = exact_then (exact_sign count (codes "(")) (λ _. exact_both (arguments_exact function) (λ given. exact_then (exact_sign count (codes ")")) (λ _. exact_gives counting (exprs.Call function given)))
      (λ given v b rest l _. behind_list (codes ")") (done (exprs.Call function given)) (goes_on scripts_language) closing refl v b rest l))

  call_begins : (function : ScriptFun) → Begins (call V' function) (is_sign (codes "(")) true
  call_begins function = begins_both (sign_begins (codes "(") (codes "("))

  behind_variable_exact : (word : List ℕ) (o : Option ScriptFun) → Exact counting (behind_variable V word o) (behind_variable V' word o) (read_behind_variable P word o) (Not (is_sign (codes "(")))
  unfolding read_behind_variable
  behind_variable_exact word (Some function) = exact_option (is_sign (codes "(")) (exprs.Variable word) (call_begins function) (call_exact function)
  behind_variable_exact word None = exact_before (λ _ _. tt) (exact_gives counting (exprs.Variable word))

  behind_word_exact : (word : List ℕ) (o : Option ScriptFun) → Exact counting (behind_word V word o) (behind_word V' word o) (read_behind_word P word o) (Not (is_sign (codes "(")))
  unfolding read_behind_word
  behind_word_exact word (Some function) = exact_before (λ _ _. tt) (call_exact function)
  behind_word_exact word None = behind_variable_exact word (function_in functions_before_parenthesis word)

  worded_exact : Exact counting (worded V) (worded V') (read_worded P) (Not (is_sign (codes "(")))
  unfolding read_worded
  worded_exact = exact_then exact_expression_word (λ word. behind_word_exact word (function_in functions word))

  pub primary_exact : {T T' : Grammar Lexeme Expr} {Q : Plan Expr} → Exact counting T T' Q (Not (goes_on scripts_language)) → Exact counting (primary V T) (primary V' T') (read_primary P Q) (Not (is_sign (codes "(")))
  unfolding read_primary
  primary_exact truth =
      exact_or is_number (begins_both (kind_begins is_number_kind money_kind)) (begins_either (begins_both (kind_begins is_number_kind text_kind)) (begins_both (kind_begins is_number_kind expression_word_kind))) (exact_before (λ _ _. tt) number_exact)
      (exact_or is_text (begins_both (kind_begins is_text_kind text_kind)) (begins_both (kind_begins is_text_kind expression_word_kind)) (exact_before (λ _ _. tt) quoted_exact)
      worded_exact)

-- a primary begins with no sign
pub primary_no_sign : (V T : Grammar Lexeme Expr) (b : List ℕ) → Begins (primary V T) (is_sign b) false
primary_no_sign V T b = begins_either (begins_both (value_no_sign money_is_value b)) (begins_either (begins_both (value_no_sign text_is_value b)) (begins_both (words_no_sign expression_words b)))

-- `1`
pub number_sample : (V T : Grammar Lexeme Expr) → (u : List Lexeme) × (a : Expr) × primary V T u a
number_sample V T = let (u, a, h) = number_exact.word in (u, a, inl h)
