-- The grammar of a user's text.
use Rattle.std.specs.Prelude.{ℕ, ℤ, neg_ℤ, Bool, true, false, not, ◌&&◌, if◌then◌else◌, List, [], ◌∷◌, Option, Some}
use Rattle.std.specs.Prelude.{None}
use Rattle.std.specs.Prelude.{codes, bytes_eq}
use Rattle.std.specs.List.{list_any, find}
use Rattle.std.specs.Option.{option_map}
use Rattle.cube_lex.specs.Lexeme.{Lexeme}
use Rattle.cube_lex.specs.declared.position.Position.{Position}
use Rattle.grammar.specs.Grammar.{Grammar, done, one, either, many, ◌>>=◌, ◌>>◌}
use Rattle.grammar.specs.After.{many_after}
use Rattle.grammar.specs.Lists.{listed, minus, names}
use Rattle.grammar.specs.Tokens.{sign, word, whole, name, text, money, file, when, is_word_kind, capitals}
use Rattle.grammar.specs.Variables.{is_variable}
use Rattle.cube_fixed.specs.Text.{decimal_point}
use Rattle.user_text.specs.FileSigns.{comma, separator, decimal}
use Rattle.user_text.specs.declared.command.CellText.{CellText}
use Rattle.user_text.specs.declared.command.ParamText.{ParamText}
use Rattle.user_text.specs.declared.command.ParamText.TheVariants as params
use Rattle.user_text.specs.declared.command.SetText.{SetText}
use Rattle.user_text.specs.declared.command.SpreadWord.{SpreadWord}
use Rattle.user_text.specs.declared.command.SpreadWord.TheVariants as spread_words
use Rattle.user_text.specs.declared.command.UserBody.{UserBody}
use Rattle.user_text.specs.declared.command.UserBody.TheVariants as bodies
use Rattle.user_text.specs.declared.command.UserCommand.{UserCommand}

-- name "(" name { "," name } ")"
abbrev pub cell : Grammar Lexeme CellText
cell = do
  cube ← one name
  one (sign (codes "("))
  elements ← names
  one (sign (codes ")"))
  done (record { cube = cube; elements = elements })

abbrev pub signed : Bool → ℤ → ℤ
signed negative number = if negative then neg_ℤ number else number

-- [ "-" ] Number, in millionths
abbrev pub amount : Grammar Lexeme ℤ
amount = do
  negative ← minus
  number ← one money
  done (signed negative number)

-- "PUT" cell "=" [ "-" ] Number ";"
abbrev pub put : Grammar Lexeme UserCommand
put = do
  place ← one (word (codes "PUT"))
  target ← cell
  one (sign (codes "="))
  value ← amount
  one (sign (codes ";"))
  done (record { at = place; body = bodies.Put target value })

-- "GET" cell ";"
abbrev pub get : Grammar Lexeme UserCommand
get = do
  place ← one (word (codes "GET"))
  target ← cell
  one (sign (codes ";"))
  done (record { at = place; body = bodies.Get target })

-- [ "SKIP" whole ]
abbrev pub skip : Grammar Lexeme ℕ
skip = either (do one (word (codes "SKIP")); one whole) (done 0)

-- [ "REJECTS" whole ]
abbrev pub rejects : Grammar Lexeme (Option ℕ)
rejects = either (do one (word (codes "REJECTS")); most ← one whole; done (Some most)) (done None)

-- the file of the records, how many records at its beginning are skipped, what stands between columns, what between
-- units and decimals, and how many records may be passed over
abbrev pub Source : Type 0
Source = Option (List ℕ) × ℕ × ℕ × ℕ × Option ℕ

-- "FROM" file [ "SKIP" whole ] [ "SEPARATOR" ( Text | "TAB" ) ] [ "DECIMAL" Text ] [ "REJECTS" whole ]
abbrev pub given_source : Grammar Lexeme Source
given_source = do
  one (word (codes "FROM"))
  path ← one file
  records ← skip
  byte ← separator
  mark ← decimal byte
  most ← rejects
  done (Some path, records, byte, mark, most)

-- [ "FROM" file [ "SKIP" whole ] [ "SEPARATOR" ( Text | "TAB" ) ] [ "DECIMAL" Text ] [ "REJECTS" whole ] ]
abbrev pub source : Grammar Lexeme Source
source = either given_source (done (None, 0, comma, decimal_point, None))

-- whether a parameter of this word is among these
abbrev pub is_set : List (List ℕ × ParamText) → List ℕ → Bool
is_set before variable = list_any (λ param. bytes_eq param.0 variable) before

-- what the first parameter of this word is set to
abbrev pub set_to : List (List ℕ × ParamText) → List ℕ → Option ParamText
set_to params word = option_map (λ param. param.1) (find (λ param. bytes_eq param.0 word) params)

-- whether a parameter of this word may come behind these
abbrev pub may_come : List (List ℕ × ParamText) → List ℕ → Bool
may_come before variable = is_variable variable && not (is_set before variable)

-- a word that may name a variable and isn't set yet, in capitals
abbrev pub new_variable : List (List ℕ × ParamText) → Lexeme → Option (List ℕ)
new_variable before = when (λ t. is_word_kind t.kind && may_come before (capitals t.piece)) (λ t. capitals t.piece)

-- [ "-" ] Number | Text
abbrev pub value : Grammar Lexeme ParamText
value = either (do bytes ← one text; done (params.Text bytes)) (do number ← amount; done (params.Number number))

-- Word "=" ( [ "-" ] Number | Text )
abbrev pub param : List (List ℕ × ParamText) → Grammar Lexeme (List ℕ × ParamText)
param before = do
  variable ← one (new_variable before)
  one (sign (codes "="))
  given ← value
  done (variable, given)

-- "," param
abbrev pub next_param : List (List ℕ × ParamText) → Grammar Lexeme (List ℕ × ParamText)
next_param before = do
  one (sign (codes ","))
  param before

-- "WITH" param { "," param }
abbrev pub params_behind : Grammar Lexeme (List (List ℕ × ParamText))
params_behind = do
  one (word (codes "WITH"))
  first ← param []
  rest ← many_after next_param (first ∷ [])
  done (first ∷ rest)

-- [ "WITH" param { "," param } ]
abbrev pub with_params : Grammar Lexeme (List (List ℕ × ParamText))
with_params = either params_behind (done [])

abbrev pub loading : Position → List ℕ → Source → List (List ℕ × ParamText) → UserCommand
loading place script records variables = record {
  at = place;
  body = bodies.Load (record {
    script = script;
    file = records.0;
    skip = records.1;
    separator = records.2;
    decimal = records.3;
    rejects = records.4;
    params = variables;
  });
}

-- "LOAD" name
-- [ "FROM" file [ "SKIP" whole ] [ "SEPARATOR" ( Text | "TAB" ) ] [ "DECIMAL" Text ] [ "REJECTS" whole ] ]
-- [ "WITH" param { "," param } ] ";"
abbrev pub load : Grammar Lexeme UserCommand
load = do
  place ← one (word (codes "LOAD"))
  script ← one name
  records ← source
  variables ← with_params
  one (sign (codes ";"))
  done (loading place script records variables)

-- [ ":" name { "," name } ]
abbrev pub elements : Grammar Lexeme (Option (List (List ℕ)))
elements = either (do one (sign (codes ":")); given ← names; done (Some given)) (done None)

-- name [ ":" name { "," name } ]
abbrev pub set : Grammar Lexeme SetText
set = do
  dim ← one name
  given ← elements
  done (record { dim = dim; elements = given })

-- set { "BY" set }
abbrev pub axis : Grammar Lexeme (List SetText)
axis = do
  first ← set
  rest ← many (do one (word (codes "BY")); set)
  done (first ∷ rest)

-- name ":" name
abbrev pub point : Grammar Lexeme (List ℕ × List ℕ)
point = do
  dim ← one name
  one (sign (codes ":"))
  element ← one name
  done (dim, element)

-- [ "AT" point { "," point } ]
abbrev pub points : Grammar Lexeme (List (List ℕ × List ℕ))
points = either (do one (word (codes "AT")); listed point point) (done [])

-- [ "NOZEROS" ]
abbrev pub nozeros : Grammar Lexeme Bool
nozeros = either (do one (word (codes "NOZEROS")); done true) (done false)

abbrev pub viewing : Position → List ℕ → List SetText → List SetText → List (List ℕ × List ℕ) → Bool → UserCommand
viewing place cube rows columns at without_zeros = record {
  at = place;
  body = bodies.View (record { cube = cube; rows = rows; columns = columns; points = at; nozeros = without_zeros });
}

-- "VIEW" name "ROWS" axis "COLUMNS" axis [ "AT" point { "," point } ] [ "NOZEROS" ] ";"
abbrev pub view : Grammar Lexeme UserCommand
view = do
  place ← one (word (codes "VIEW"))
  cube ← one name
  one (word (codes "ROWS"))
  rows ← axis
  one (word (codes "COLUMNS"))
  columns ← axis
  at ← points
  without_zeros ← nozeros
  one (sign (codes ";"))
  done (viewing place cube rows columns at without_zeros)

-- "EQUAL" | "PROPORTIONAL"
abbrev pub spread_word : Grammar Lexeme SpreadWord
spread_word = either
    (do one (word (codes "EQUAL")); done spread_words.Equal)
    (do one (word (codes "PROPORTIONAL")); done spread_words.Proportional)

-- "SPREAD" cell "=" [ "-" ] Number ( "EQUAL" | "PROPORTIONAL" ) ";"
abbrev pub spread : Grammar Lexeme UserCommand
spread = do
  place ← one (word (codes "SPREAD"))
  target ← cell
  one (sign (codes "="))
  value ← amount
  how ← spread_word
  one (sign (codes ";"))
  done (record { at = place; body = bodies.Spread target value how })

-- "TRACE" cell ";"
abbrev pub trace : Grammar Lexeme UserCommand
trace = do
  place ← one (word (codes "TRACE"))
  target ← cell
  one (sign (codes ";"))
  done (record { at = place; body = bodies.Trace target })

-- a word that is a whole command
abbrev pub alone : List ℕ → UserBody → Grammar Lexeme UserCommand
alone called body = do
  place ← one (word called)
  one (sign (codes ";"))
  done (record { at = place; body = body })

-- "SANDBOX" ";"
abbrev pub sandbox : Grammar Lexeme UserCommand
sandbox = alone (codes "SANDBOX") bodies.Sandbox

-- "PUBLISH" ";"
abbrev pub publish : Grammar Lexeme UserCommand
publish = alone (codes "PUBLISH") bodies.Publish

-- "DISCARD" ";"
abbrev pub discard : Grammar Lexeme UserCommand
discard = alone (codes "DISCARD") bodies.Discard

-- the commands of sandboxes
abbrev pub of_sandboxes : Grammar Lexeme UserCommand
of_sandboxes = either sandbox (either publish discard)

abbrev pub command : Grammar Lexeme UserCommand
command = either put (either get (either load (either view (either spread (either trace of_sandboxes)))))

-- { command }
abbrev pub user : Grammar Lexeme (List UserCommand)
user = many command
