-- The readers of formulas, in the shape of the code.
use Rattle.std.specs.Prelude.{ℕ, Bool, List, [], ◌∷◌, Some, None, codes, bytes_eq, if◌then◌else◌}
use Rattle.cube_lex.specs.Lexeme.{Lexeme}
use Rattle.cube_lex.specs.declared.position.Position.{Position}
use Rattle.grammar.specs.Reading.{Reader, gives, take_one, choose, ◌>>=◌, ◌>>◌}
use Rattle.grammar.specs.Lists.{read_listed, read_further}
use Rattle.grammar.specs.Tokens.{sign, word, name, text, money, capital_word, is_sign, is_text, is_number, is_any_word}
use Rattle.expression_grammar.specs.Limits.{most_inside}
use Rattle.expression_grammar.specs.Readers.Reading.{read_expression, tree_of}
use Rattle.expression_grammar.specs.declared.sort.Sort.{Sort}
use Rattle.expression_grammar.specs.declared.sort.Want.{Want}
use Rattle.expression_grammar.specs.declared.sort.Want.TheVariants as wants
use Rattle.rule_tree.specs.Counting.{count}
use Rattle.rule_tree.specs.Formula.{word_name, is_if, rules_language}
use Rattle.rule_tree.specs.declared.counted.Counted.{Counted}
use Rattle.rule_tree.specs.declared.excess.Excess.{Excess}
use Rattle.rule_tree.specs.declared.tree.SimpleText.{SimpleText}
use Rattle.rule_tree.specs.declared.tree.Tree.{Tree}
use Rattle.rule_tree.specs.declared.tree.Tree.TheVariants as trees

-- a reader of a part of the text
abbrev pub Plan : Type 0 → Type 0
Plan A = Reader Lexeme Counted Excess A

-- this sign, this word, a name
abbrev pub take_sign : List ℕ → Plan (Unit {0})
take_sign bytes = take_one count (sign bytes)

abbrev pub take_word : List ℕ → Plan Position
take_word bytes = take_one count (word bytes)

abbrev pub take_name : Plan (List ℕ)
take_name = take_one count name

-- a name that is the element, or the dimension where `:` follows
unfoldable pub read_behind_first : List ℕ → Plan SimpleText
read_behind_first first = choose (is_sign (codes ":"))
    (do take_sign (codes ":"); element ← take_name; gives (record { dim = Some first; element = element }))
    (gives (record { dim = None; element = first }))

unfoldable pub read_simple : Plan SimpleText
read_simple = do first ← take_name; read_behind_first first

-- as many as there are up to a `]`
unfoldable pub read_up_to_bracket : {A : Type 0} → Plan A → Plan (List A)
read_up_to_bracket read_item = choose (is_sign (codes "]")) (gives []) (read_listed count read_item)

unfoldable pub read_in_brackets : {A : Type 0} → Plan A → Plan (List A)
read_in_brackets read_item = do
  take_sign (codes "[")
  items ← read_up_to_bracket read_item
  take_sign (codes "]")
  gives items

abbrev pub read_bracket : Plan (List SimpleText)
read_bracket = read_in_brackets read_simple

-- Primaries.

unfoldable pub read_number : Plan Tree
read_number = do value ← take_one count money; gives (trees.Number value)

unfoldable pub read_quoted : Plan Tree
read_quoted = do bytes ← take_one count text; gives (trees.Text bytes)

unfoldable pub read_dimension : Plan (List ℕ)
read_dimension = choose is_any_word (take_one count word_name) take_name

unfoldable pub read_current : Plan Tree
read_current = do
  take_sign (codes "!")
  dim ← read_dimension
  gives (trees.Current dim)

unfoldable pub read_reference : Plan Tree
read_reference = do simples ← read_bracket; gives (trees.Bracket simples)

unfoldable pub read_first_argument : Plan Tree → Plan Tree → List ℕ → Plan Tree
read_first_argument value truth function = if is_if function then truth else value

unfoldable pub read_arguments : Plan Tree → Plan Tree → List ℕ → Plan (List Tree)
read_arguments value truth function =
    choose (is_sign (codes ")")) (gives [])
    (do first ← read_first_argument value truth function; read_further count value first)

-- what stands behind a function's word
unfoldable pub read_call : Plan Tree → Plan Tree → List ℕ → Plan Tree
read_call value truth function = do
  take_sign (codes "(")
  arguments ← read_arguments value truth function
  take_sign (codes ")")
  gives (trees.Call function arguments)

-- a word that may stand alone, and a function's where `(` follows
unfoldable pub read_alone : Plan Tree → Plan Tree → List ℕ → Tree → Plan Tree
read_alone value truth function tree = choose (is_sign (codes "(")) (read_call value truth function) (gives tree)

unfoldable pub read_behind_word : Plan Tree → Plan Tree → List ℕ → Plan Tree
read_behind_word value truth function =
    if bytes_eq function (codes "STET") then read_alone value truth function trees.Stet
    else if bytes_eq function (codes "CONTINUE") then read_alone value truth function trees.Continue
    else read_call value truth function

unfoldable pub read_worded : Plan Tree → Plan Tree → Plan Tree
read_worded value truth = do function ← take_one count capital_word; read_behind_word value truth function

-- a primary but for one in parentheses, by the values and truths inside it
unfoldable pub read_primary : Plan Tree → Plan Tree → Plan Tree
read_primary value truth =
    choose is_number read_number
    (choose is_text read_quoted
    (choose (is_sign (codes "!")) read_current
    (choose (is_sign (codes "[")) read_reference (read_worded value truth))))

-- Formulas, with fewer than so many one inside the other.

abbrev pub read_inner : ℕ → Want → Plan (Tree × Sort)
read_inner left = read_expression count rules_language read_primary left

unfoldable pub read_formula : Plan Tree
read_formula = tree_of (read_inner most_inside wants.Value)
