-- The readers of a user's text, in the shape of the code.
use Rattle.std.specs.Prelude.{ℕ, ℤ, Bool, true, false, ◌==◌, ◌||◌, List, [], ◌∷◌, Option, Some, None, codes}
use Rattle.cube_lex.specs.Lexeme.{Lexeme}
use Rattle.cube_lex.specs.declared.position.Position.{Position}
use Rattle.grammar.specs.Reading.{Reader, gives, take_one, choose, all_of, ◌>>=◌, ◌>>◌}
use Rattle.grammar.specs.After.{all_after}
use Rattle.grammar.specs.Lists.{read_listed, read_minus, read_names}
use Rattle.grammar.specs.Tokens.{sign, word, whole, name, text, money, file, is_sign, is_word, is_text}
use Rattle.user_text.specs.Counting.{count}
use Rattle.cube_fixed.specs.Text.{decimal_point}
use Rattle.user_text.specs.FileSigns.{comma, tab, sign_text, sign_but}
use Rattle.user_text.specs.UserText.{Source, signed, new_variable, loading, viewing}
use Rattle.user_text.specs.declared.command.CellText.{CellText}
use Rattle.user_text.specs.declared.command.ParamText.{ParamText}
use Rattle.user_text.specs.declared.command.ParamText.TheVariants as params
use Rattle.user_text.specs.declared.command.SetText.{SetText}
use Rattle.user_text.specs.declared.command.SpreadWord.{SpreadWord}
use Rattle.user_text.specs.declared.command.SpreadWord.TheVariants as spread_words
use Rattle.user_text.specs.declared.command.UserBody.{UserBody}
use Rattle.user_text.specs.declared.command.UserBody.TheVariants as bodies
use Rattle.user_text.specs.declared.command.UserCommand.{UserCommand}
use Rattle.user_text.specs.declared.fault.TooMany.{TooMany}
use Rattle.user_text.specs.declared.counted.Counted.{Counted}

-- a reader of a part of the text
abbrev pub Plan : Type 0 → Type 0
Plan A = Reader Lexeme Counted TooMany A

-- this sign, this word, this kind of value
abbrev pub take_sign : List ℕ → Plan (Unit {0})
take_sign bytes = take_one count (sign bytes)

abbrev pub take_word : List ℕ → Plan Position
take_word bytes = take_one count (word bytes)

abbrev pub take_name : Plan (List ℕ)
take_name = take_one count name

unfoldable pub read_cell : Plan CellText
read_cell = do
  cube ← take_name
  take_sign (codes "(")
  elements ← read_names count
  take_sign (codes ")")
  gives (record { cube = cube; elements = elements })

unfoldable pub read_amount : Plan ℤ
read_amount = do
  negative ← read_minus count
  number ← take_one count money
  gives (signed negative number)

unfoldable pub read_put : Plan UserCommand
read_put = do
  place ← take_word (codes "PUT")
  target ← read_cell
  take_sign (codes "=")
  value ← read_amount
  take_sign (codes ";")
  gives (record { at = place; body = bodies.Put target value })

unfoldable pub read_get : Plan UserCommand
read_get = do
  place ← take_word (codes "GET")
  target ← read_cell
  take_sign (codes ";")
  gives (record { at = place; body = bodies.Get target })

unfoldable pub read_skip : Plan ℕ
read_skip = choose (is_word (codes "SKIP")) (do take_word (codes "SKIP"); take_one count whole) (gives 0)

unfoldable pub read_given_separator : Plan ℕ
read_given_separator = choose is_text (take_one count sign_text) (do take_word (codes "TAB"); gives tab)

unfoldable pub read_separator : Plan ℕ
read_separator =
    choose (is_word (codes "SEPARATOR")) (do take_word (codes "SEPARATOR"); read_given_separator) (gives comma)

unfoldable pub read_given_decimal : ℕ → Plan ℕ
read_given_decimal byte = do take_word (codes "DECIMAL"); take_one count (sign_but byte)

unfoldable pub read_sign_by : Bool → ℕ → Plan ℕ
read_sign_by true byte = read_given_decimal byte
read_sign_by false byte = choose (is_word (codes "DECIMAL")) (read_given_decimal byte) (gives decimal_point)

unfoldable pub read_decimal : ℕ → Plan ℕ
read_decimal byte = read_sign_by (byte == decimal_point) byte

unfoldable pub read_rejects : Plan (Option ℕ)
read_rejects = choose (is_word (codes "REJECTS"))
    (do take_word (codes "REJECTS"); most ← take_one count whole; gives (Some most))
    (gives None)

unfoldable pub read_given_source : Plan Source
read_given_source = do
  take_word (codes "FROM")
  path ← take_one count file
  records ← read_skip
  byte ← read_separator
  mark ← read_decimal byte
  most ← read_rejects
  gives (Some path, records, byte, mark, most)

unfoldable pub read_source : Plan Source
read_source = choose (is_word (codes "FROM")) read_given_source (gives (None, 0, comma, decimal_point, None))

unfoldable pub read_value : Plan ParamText
read_value = choose is_text
    (do bytes ← take_one count text; gives (params.Text bytes))
    (do number ← read_amount; gives (params.Number number))

unfoldable pub read_param : List (List ℕ × ParamText) → Plan (List ℕ × ParamText)
read_param before = do
  variable ← take_one count (new_variable before)
  take_sign (codes "=")
  given ← read_value
  gives (variable, given)

unfoldable pub read_next_param : List (List ℕ × ParamText) → Plan (List ℕ × ParamText)
read_next_param before = do take_sign (codes ","); read_param before

unfoldable pub read_further_params : List ℕ × ParamText → Plan (List (List ℕ × ParamText))
read_further_params first = do rest ← all_after (is_sign (codes ",")) read_next_param (first ∷ []); gives (first ∷ rest)

unfoldable pub read_params : Plan (List (List ℕ × ParamText))
read_params = choose (is_word (codes "WITH"))
    (do take_word (codes "WITH"); first ← read_param []; read_further_params first) (gives [])

unfoldable pub read_load : Plan UserCommand
read_load = do
  place ← take_word (codes "LOAD")
  script ← take_name
  records ← read_source
  variables ← read_params
  take_sign (codes ";")
  gives (loading place script records variables)

unfoldable pub read_elements : Plan (Option (List (List ℕ)))
read_elements = choose (is_sign (codes ":"))
    (do take_sign (codes ":"); elements ← read_names count; gives (Some elements)) (gives None)

unfoldable pub read_set : Plan SetText
read_set = do
  dim ← take_name
  elements ← read_elements
  gives (record { dim = dim; elements = elements })

unfoldable pub read_next_set : Plan SetText
read_next_set = do take_word (codes "BY"); read_set

unfoldable pub read_axis : Plan (List SetText)
read_axis = do first ← read_set; rest ← all_of (is_word (codes "BY")) read_next_set; gives (first ∷ rest)

unfoldable pub read_point : Plan (List ℕ × List ℕ)
read_point = do
  dim ← take_name
  take_sign (codes ":")
  element ← take_name
  gives (dim, element)

unfoldable pub read_points : Plan (List (List ℕ × List ℕ))
read_points = choose (is_word (codes "AT")) (do take_word (codes "AT"); read_listed count read_point) (gives [])

unfoldable pub read_nozeros : Plan Bool
read_nozeros = choose (is_word (codes "NOZEROS")) (do take_word (codes "NOZEROS"); gives true) (gives false)

unfoldable pub read_view : Plan UserCommand
read_view = do
  place ← take_word (codes "VIEW")
  cube ← take_name
  take_word (codes "ROWS")
  rows ← read_axis
  take_word (codes "COLUMNS")
  columns ← read_axis
  at ← read_points
  without_zeros ← read_nozeros
  take_sign (codes ";")
  gives (viewing place cube rows columns at without_zeros)

unfoldable pub read_spread_word : Plan SpreadWord
read_spread_word = choose (is_word (codes "EQUAL"))
    (do take_word (codes "EQUAL"); gives spread_words.Equal)
    (do take_word (codes "PROPORTIONAL"); gives spread_words.Proportional)

unfoldable pub read_spread : Plan UserCommand
read_spread = do
  place ← take_word (codes "SPREAD")
  target ← read_cell
  take_sign (codes "=")
  value ← read_amount
  how ← read_spread_word
  take_sign (codes ";")
  gives (record { at = place; body = bodies.Spread target value how })

unfoldable pub read_trace : Plan UserCommand
read_trace = do
  place ← take_word (codes "TRACE")
  target ← read_cell
  take_sign (codes ";")
  gives (record { at = place; body = bodies.Trace target })

unfoldable pub read_alone : List ℕ → UserBody → Plan UserCommand
read_alone called body = do
  place ← take_word called
  take_sign (codes ";")
  gives (record { at = place; body = body })

-- whether a command of sandboxes comes
abbrev pub is_sandbox_word : Lexeme → Bool
is_sandbox_word t = is_word (codes "SANDBOX") t || (is_word (codes "PUBLISH") t || is_word (codes "DISCARD") t)

unfoldable pub read_of_sandboxes : Plan UserCommand
read_of_sandboxes =
    choose (is_word (codes "SANDBOX")) (read_alone (codes "SANDBOX") bodies.Sandbox) (choose (is_word (codes "PUBLISH"))
    (read_alone (codes "PUBLISH") bodies.Publish) (read_alone (codes "DISCARD") bodies.Discard))

-- whether a command comes
abbrev pub is_command_word : Lexeme → Bool
is_command_word t =
    is_word (codes "PUT") t || (is_word (codes "GET") t || (is_word (codes "LOAD") t || (is_word (codes "VIEW") t ||
    (is_word (codes "SPREAD") t || (is_word (codes "TRACE") t || is_sandbox_word t)))))

unfoldable pub read_command : Plan UserCommand
read_command =
    choose (is_word (codes "PUT")) read_put (choose (is_word (codes "GET")) read_get (choose (is_word
    (codes "LOAD")) read_load (choose (is_word (codes "VIEW")) read_view (choose (is_word
    (codes "SPREAD")) read_spread (choose (is_word (codes "TRACE")) read_trace read_of_sandboxes)))))

unfoldable pub read_user : Plan (List UserCommand)
read_user = all_of is_command_word read_command
