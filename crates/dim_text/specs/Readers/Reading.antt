-- The readers of a block, in the shape of the code.
use Rattle.std.specs.Prelude.{ℕ, ℤ, pos, List, [], ◌∷◌, Bool, true, false, ◌||◌, codes}
use Rattle.cube_lex.specs.Lexeme.{Lexeme}
use Rattle.grammar.specs.Watch.{unscanned}
use Rattle.grammar.specs.Lists.{read_minus, read_listed}
use Rattle.grammar.specs.Reading.{Reader, gives, take_one, choose, all_of, unit_of, checked, ◌>>=◌, ◌>>◌}
use Rattle.grammar.specs.Tokens.{sign, word, whole, name, text, is_sign, is_word}
use Rattle.grammar.specs.declared.cursor.Unwatched.{Unwatched}
use Rattle.dim_text.specs.declared.fault.Refusal.{Refusal}
use Rattle.dim_text.specs.Statement.{Statement, Head, Leaf, Consolidated, Attribute, End, Close, signed}
use Rattle.dim_text.specs.Building.{add}
use Rattle.dim_text.specs.Progress.{Progress}

-- a reader of a part of a statement, which nothing watches
abbrev pub Plain : Type 0 → Type 0
Plain A = Reader Lexeme Unwatched Refusal A

unfoldable pub read_head : Plain Statement
read_head = do
  at ← take_one unscanned (word (codes "DIM"))
  shown ← take_one unscanned name
  take_one unscanned (sign (codes ";"))
  gives (Head at shown)

unfoldable pub read_weight : Plain ℤ
read_weight = choose (is_sign (codes "*"))
    (do
      take_one unscanned (sign (codes "*"))
      negative ← read_minus unscanned
      n ← take_one unscanned whole
      gives (signed negative n))
    (gives (pos 1))

unfoldable pub read_part : Plain (List ℕ × ℤ)
read_part = do
  shown ← take_one unscanned name
  n ← read_weight
  gives (shown, n)

unfoldable pub read_parts : Plain (List (List ℕ × ℤ))
read_parts = choose (is_sign (codes ":"))
    (do
      take_one unscanned (sign (codes ":"))
      read_listed unscanned read_part)
    (gives [])

unfoldable pub read_leaf : Plain Statement
read_leaf = do
  at ← take_one unscanned (word (codes "N"))
  shown ← take_one unscanned name
  take_one unscanned (sign (codes ";"))
  gives (Leaf at shown)

unfoldable pub read_consolidated : Plain Statement
read_consolidated = do
  at ← take_one unscanned (word (codes "C"))
  shown ← take_one unscanned name
  components ← read_parts
  take_one unscanned (sign (codes ";"))
  gives (Consolidated at shown components)

unfoldable pub read_attribute : Plain Statement
read_attribute = do
  at ← take_one unscanned (word (codes "A"))
  shown ← take_one unscanned name
  called ← take_one unscanned name
  take_one unscanned (sign (codes "="))
  value ← take_one unscanned text
  take_one unscanned (sign (codes ";"))
  gives (Attribute at shown called value)

unfoldable pub read_element : Plain Statement
read_element = choose (is_word (codes "N")) read_leaf (choose (is_word (codes "C")) read_consolidated read_attribute)

-- whether an element's statement comes
abbrev pub is_element_word : Lexeme → Bool
is_element_word t = (is_word (codes "N") t || is_word (codes "C") t) || is_word (codes "A") t

unfoldable pub read_end : Plain Statement
read_end = do
  at ← take_one unscanned (word (codes "END"))
  gives (End at)

unfoldable pub read_close : Plain Statement
read_close = do
  take_one unscanned (sign (codes ";"))
  gives Close

-- a statement that is built in
abbrev pub built : Plain Statement → Reader Lexeme Progress Refusal Statement
built P = checked (record {}) add P

abbrev pub read_every_element : Reader Lexeme Progress Refusal (List Statement)
read_every_element = all_of is_element_word (built read_element)

unfoldable pub read_elements : Reader Lexeme Progress Refusal (Unit {0})
read_elements = unit_of read_every_element

unfoldable pub read_opening : Reader Lexeme Progress Refusal (Unit {0})
read_opening = unit_of (built read_head)

unfoldable pub read_ending : Reader Lexeme Progress Refusal (Unit {0})
read_ending = unit_of (built read_end)

unfoldable pub read_closing : Reader Lexeme Progress Refusal (Unit {0})
read_closing = unit_of (built read_close)

unfoldable pub read_body : Reader Lexeme Progress Refusal (Unit {0})
read_body = do
  read_elements
  read_ending
  read_closing

unfoldable pub read_block : Reader Lexeme Progress Refusal (Unit {0})
read_block = do
  read_opening
  read_body
