-- The grammar of formulas in rules: the operators, and the primaries but for parentheses.
use Rattle.std.specs.Prelude.{ℕ, Bool, true, false, ◌&&◌, List, [], ◌∷◌, Option, Some, None, codes, bytes_eq}
use Rattle.cube_lex.specs.Lexeme.{Lexeme}
use Rattle.dim_name.specs.Name.{is_name}
use Rattle.grammar.specs.Grammar.{Grammar, done, one, either, ◌>>=◌, ◌>>◌}
use Rattle.grammar.specs.Lists.{perhaps_listed}
use Rattle.grammar.specs.Tokens.{sign, word, capital_word, text, name, money, when, is_word_kind}
use Rattle.expression_grammar.specs.Language.{Table, Language}
use Rattle.expression_grammar.specs.Expression.{Primaries, expression}
use Rattle.expression_grammar.specs.declared.sort.Sort.TheVariants as sorts
use Rattle.rule_tree.specs.declared.tree.SimpleText.{SimpleText}
use Rattle.rule_tree.specs.declared.tree.Tree.{Tree}
use Rattle.rule_tree.specs.declared.tree.Tree.TheVariants as trees
use Rattle.rule_tree.specs.declared.tree.TreeOp.{TreeOp}
use Rattle.rule_tree.specs.declared.tree.TreeOp.TheVariants as ops

-- The operators, level by level.

abbrev pub ors : Table TreeOp
ors = (codes "%", ops.Or) ∷ []

abbrev pub ands : Table TreeOp
ands = (codes "&", ops.And) ∷ []

abbrev pub relations : Table TreeOp
relations = (codes "=", ops.Equal) ∷ (codes "<>", ops.Unequal) ∷ (codes "<", ops.Less) ∷ (codes ">", ops.Greater)
    ∷ (codes "<=", ops.AtMost) ∷ (codes ">=", ops.AtLeast) ∷ (codes "@=", ops.Same) ∷ (codes "@<>", ops.Other) ∷ []

abbrev pub sums : Table TreeOp
sums = (codes "+", ops.Add) ∷ (codes "-", ops.Sub) ∷ []

abbrev pub products : Table TreeOp
products = (codes "*", ops.Mul) ∷ (codes "/", ops.Div) ∷ (codes "\\", ops.DivSafe) ∷ []

abbrev pub rules_language : Language Tree TreeOp
rules_language = record {
  or = ors;
  and = ands;
  relation = relations;
  sum = sums;
  product = products;
  joined = λ o left right. trees.Binary o left right;
  negated = λ e. trees.Minus e;
  opposite = λ e. trees.Not e;
}

-- [ name ":" ]
abbrev pub dimension : Grammar Lexeme (Option (List ℕ))
dimension = either (do dim ← one name; one (sign (codes ":")); done (Some dim)) (done None)

-- [ name ":" ] name
abbrev pub simple : Grammar Lexeme SimpleText
simple = do
  dim ← dimension
  element ← one name
  done (record { dim = dim; element = element })

-- "[" [ item { "," item } ] "]"
abbrev pub in_brackets : {A : Type 0} → Grammar Lexeme A → Grammar Lexeme (List A)
in_brackets item = do
  one (sign (codes "["))
  items ← perhaps_listed item item
  one (sign (codes "]"))
  done items

abbrev pub bracket : Grammar Lexeme (List SimpleText)
bracket = in_brackets simple

abbrev pub number : Grammar Lexeme Tree
number = do value ← one money; done (trees.Number value)

abbrev pub quoted : Grammar Lexeme Tree
quoted = do bytes ← one text; done (trees.Text bytes)

-- a word that is a name, as every word of a text is
abbrev pub word_name : Lexeme → Option (List ℕ)
word_name = when (λ t. is_word_kind t.kind && is_name t.piece) (λ t. t.piece)

-- "!" ( Word | name )
abbrev pub current : Grammar Lexeme Tree
current = do
  one (sign (codes "!"))
  dim ← either (one word_name) (one name)
  done (trees.Current dim)

abbrev pub reference : Grammar Lexeme Tree
reference = do simples ← bracket; done (trees.Bracket simples)

abbrev pub stet : Grammar Lexeme Tree
stet = do one (word (codes "STET")); done trees.Stet

abbrev pub continue : Grammar Lexeme Tree
continue = do one (word (codes "CONTINUE")); done trees.Continue

-- the first argument of a function, which is a truth where it's to be one
abbrev pub first_argument : Bool → Grammar Lexeme Tree → Grammar Lexeme Tree → Grammar Lexeme Tree
first_argument true value truth = truth
first_argument false value truth = value

-- the function whose first argument is a truth
abbrev pub is_if : List ℕ → Bool
is_if function = bytes_eq function (codes "IF")

-- Word "(" [ formula { "," formula } ] ")"
abbrev pub call : Primaries Tree
call value truth = do
  function ← one capital_word
  one (sign (codes "("))
  arguments ← perhaps_listed (first_argument (is_if function) value truth) value
  one (sign (codes ")"))
  done (trees.Call function arguments)

-- a primary but for one in parentheses
abbrev pub primary : Primaries Tree
primary value truth =
    either number (either quoted (either current (either reference (either stet (either continue (call value truth))))))

-- a whole formula, which is a value
abbrev pub formula : Grammar Lexeme Tree
formula = expression rules_language primary sorts.Value
