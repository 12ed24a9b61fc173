-- The grammar of a model text. Its pieces are those by which it is watched: each ends where something may be refused.
use Rattle.std.specs.Prelude.{ℕ, Bool, true, false, ◌==◌, IsTrue, List, [], ◌∷◌, Option, Some, None, codes}
use Rattle.cube_lex.specs.Lexeme.{Lexeme}
use Rattle.cube_lex.specs.declared.position.Position.{Position}
use Rattle.grammar.specs.Grammar.{Grammar, done, one, either, many, ◌>>=◌, ◌>>◌}
use Rattle.grammar.specs.Lists.{listed}
use Rattle.grammar.specs.Tokens.{sign, word, whole, name, text, file, located}
use Rattle.dim_text.specs.Statement.{unit, body}
use Rattle.model_text.specs.declared.order.OrderWord.{OrderWord}
use Rattle.model_text.specs.declared.order.OrderWord.TheVariants as words

pub data Piece : Type 0 where
  -- the version's place and number
  Version : Position → ℕ → Piece
  -- a `;`
  Closing : Piece
  -- the place of the word
  DimensionWord : Position → Piece
  CubeWord : Position → Piece
  ScriptWord : Position → Piece
  -- a quoted text with its place: the name of a dimension, a cube or a script, or the file of a script
  QuotedText : Position → List ℕ → Piece
  -- the name of one more dimension of a cube, with its place
  CubeDimension : Position → List ℕ → Piece
  -- the rest of a cube: its rule file and the words of its order line, each with the place of its first word
  CubeEnd : Option (Position × List ℕ) → Option (Position × List OrderWord) → Piece

-- "MODEL" whole
abbrev pub version : Grammar Lexeme Piece
version = do
  one (word (codes "MODEL"))
  n ← one (located whole)
  done (Version n.0 n.1)

-- ";"
abbrev pub closing : Grammar Lexeme Piece
closing = do
  one (sign (codes ";"))
  done Closing

-- "DIM"
abbrev pub dimension_word : Grammar Lexeme Piece
dimension_word = do
  place ← one (word (codes "DIM"))
  done (DimensionWord place)

-- "CUBE"
abbrev pub cube_word : Grammar Lexeme Piece
cube_word = do
  place ← one (word (codes "CUBE"))
  done (CubeWord place)

-- "SCRIPT"
abbrev pub script_word : Grammar Lexeme Piece
script_word = do
  place ← one (word (codes "SCRIPT"))
  done (ScriptWord place)

-- name
abbrev pub naming : Grammar Lexeme Piece
naming = do
  n ← one (located name)
  done (QuotedText n.0 n.1)

-- this sign, and name
abbrev pub dimension_behind : List ℕ → Grammar Lexeme Piece
dimension_behind bytes = do
  one (sign bytes)
  n ← one (located name)
  done (CubeDimension n.0 n.1)

-- "(" name
abbrev pub first_dimension : Grammar Lexeme Piece
first_dimension = dimension_behind (codes "(")

-- "," name
abbrev pub next_dimension : Grammar Lexeme Piece
next_dimension = dimension_behind (codes ",")

-- "RULES" file ";"
abbrev pub rule_file : Grammar Lexeme (Option (Position × List ℕ))
rule_file = do
  place ← one (word (codes "RULES"))
  bytes ← one file
  one (sign (codes ";"))
  done (Some (place, bytes))

-- [ "RULES" file ";" ]
abbrev pub rules : Grammar Lexeme (Option (Position × List ℕ))
rules = either rule_file (done None)

-- name whole
abbrev pub rank : Grammar Lexeme (List ℕ × ℕ)
rank = do
  shown ← one name
  n ← one whole
  done (shown, n)

-- name whole { "," name whole }
abbrev pub rank_list : Grammar Lexeme (List (List ℕ × ℕ))
rank_list = listed rank rank

-- "(" name whole { "," name whole } ")"
abbrev pub in_parentheses : Grammar Lexeme (List (List ℕ × ℕ))
in_parentheses = do
  one (sign (codes "("))
  list ← rank_list
  one (sign (codes ")"))
  done list

-- the word `TOTALS` may stand in texts of version 2
abbrev pub has_totals : ℕ → Bool
has_totals version = version == 2

-- a text of G, where it may stand
abbrev pub only_if : {A : Type 0} → Bool → Grammar Lexeme A → Grammar Lexeme A
only_if allowed G ts a = IsTrue allowed × G ts a

-- "TOTALS" "(" name whole { "," name whole } ")"
abbrev pub total_ranks : List ℕ → List (List ℕ × ℕ) → Grammar Lexeme OrderWord
total_ranks shown leaves = do
  one (word (codes "TOTALS"))
  totals ← in_parentheses
  done (words.RanksByKind shown leaves totals)

-- [ "TOTALS" "(" name whole { "," name whole } ")" ]
abbrev pub behind_ranks : Bool → List ℕ → List (List ℕ × ℕ) → Grammar Lexeme OrderWord
behind_ranks totals shown leaves = either (only_if totals (total_ranks shown leaves)) (done (words.Ranks shown leaves))

-- "(" name whole { "," name whole } ")" [ "TOTALS" "(" name whole { "," name whole } ")" ]
abbrev pub given_ranks : Bool → List ℕ → Grammar Lexeme OrderWord
given_ranks totals shown = do
  leaves ← in_parentheses
  behind_ranks totals shown leaves

-- [ "(" name whole { "," name whole } ")" [ "TOTALS" "(" name whole { "," name whole } ")" ] ]
abbrev pub ranks : Bool → List ℕ → Grammar Lexeme OrderWord
ranks totals shown = either (given_ranks totals shown) (done (words.Index shown))

-- whole
abbrev pub constant : Grammar Lexeme OrderWord
constant = do
  n ← one whole
  done (words.Constant n)

-- name [ "(" name whole { "," name whole } ")" [ "TOTALS" "(" name whole { "," name whole } ")" ] ]
abbrev pub index : Bool → Grammar Lexeme OrderWord
index totals = do
  shown ← one name
  ranks totals shown

-- "TOTALS"
abbrev pub cell_kind : Grammar Lexeme OrderWord
cell_kind = do
  one (word (codes "TOTALS"))
  done words.Totals

-- a position, with the word `TOTALS` or without
abbrev pub position : Bool → Grammar Lexeme OrderWord
position totals = either (only_if totals cell_kind) (either constant (index totals))

-- position { "," position }
abbrev pub position_list : Bool → Grammar Lexeme (List OrderWord)
position_list totals = listed (position totals) (position totals)

-- "TOTALS"
abbrev pub totals_word : Grammar Lexeme Bool
totals_word = do
  one (word (codes "TOTALS"))
  done true

-- [ "TOTALS" ]
abbrev pub auto_totals : Bool → Grammar Lexeme Bool
auto_totals totals = either (only_if totals totals_word) (done false)

-- name
abbrev pub lag_name : Grammar Lexeme (Option (List ℕ))
lag_name = do
  shown ← one name
  done (Some shown)

-- [ name ]
abbrev pub lag : Grammar Lexeme (Option (List ℕ))
lag = either lag_name (done None)

-- "AUTO" [ "TOTALS" ] [ name ]
abbrev pub auto : Bool → Grammar Lexeme (List OrderWord)
auto totals = do
  one (word (codes "AUTO"))
  kinds ← auto_totals totals
  shown ← lag
  done (words.Auto kinds shown ∷ [])

-- "AUTO" [ "TOTALS" ] [ name ] | position { "," position }
abbrev pub order_words : Bool → Grammar Lexeme (List OrderWord)
order_words totals = either (auto totals) (position_list totals)

-- "ORDER" ( "AUTO" [ "TOTALS" ] [ name ] | position { "," position } ) ";"
abbrev pub order_line : Bool → Grammar Lexeme (Option (Position × List OrderWord))
order_line totals = do
  place ← one (word (codes "ORDER"))
  list ← order_words totals
  one (sign (codes ";"))
  done (Some (place, list))

-- [ "ORDER" ( "AUTO" [ "TOTALS" ] [ name ] | position { "," position } ) ";" ]
abbrev pub order : Bool → Grammar Lexeme (Option (Position × List OrderWord))
order totals = either (order_line totals) (done None)

-- ")" ";" [ "RULES" file ";" ] [ "ORDER" ( "AUTO" [ "TOTALS" ] [ name ] | position { "," position } ) ";" ] "END" ";"
abbrev pub cube_end : Bool → Grammar Lexeme Piece
cube_end totals = do
  one (sign (codes ")"))
  one (sign (codes ";"))
  r ← rules
  o ← order totals
  one (word (codes "END"))
  one (sign (codes ";"))
  done (CubeEnd r o)

-- file
abbrev pub script_file : Grammar Lexeme Piece
script_file = do
  n ← one (located file)
  done (QuotedText n.0 n.1)

-- "DIM" name ";"
abbrev pub dimension_head : Grammar Lexeme (Unit {0})
dimension_head = do
  unit dimension_word
  unit naming
  unit closing

-- "DIM" name ";" { element } "END" ";"
abbrev pub dimension : Grammar Lexeme (Unit {0})
dimension = do
  dimension_head
  body

-- "CUBE" name
abbrev pub cube_head : Grammar Lexeme (Unit {0})
cube_head = do
  unit cube_word
  unit naming

-- "(" name { "," name }
abbrev pub cube_dimensions : Grammar Lexeme (Unit {0})
cube_dimensions = do
  unit first_dimension
  unit (many next_dimension)

-- "CUBE" name "(" name { "," name } ")" ";" [ "RULES" file ";" ]
-- [ "ORDER" ( "AUTO" [ "TOTALS" ] [ name ] | position { "," position } ) ";" ] "END" ";"
abbrev pub cube : Bool → Grammar Lexeme (Unit {0})
cube totals = do
  cube_head
  cube_dimensions
  unit (cube_end totals)

-- "SCRIPT" name file ";"
abbrev pub script : Grammar Lexeme (Unit {0})
script = do
  unit script_word
  unit naming
  unit script_file
  unit closing

-- the number of the version
abbrev pub number_of : Piece → ℕ
number_of (Version place number) = number
number_of other = 0

-- "MODEL" whole
abbrev pub version_number : Grammar Lexeme ℕ
version_number = do
  p ← version
  done (number_of p)

-- "MODEL" whole ";"
abbrev pub opening : Grammar Lexeme ℕ
opening = do
  number ← version_number
  unit closing
  done number

-- "MODEL" whole ";" { dimension } { cube } { script }
abbrev pub model : Grammar Lexeme (Unit {0})
model = do
  number ← opening
  unit (many dimension)
  unit (many (cube (has_totals number)))
  unit (many script)

-- a quoted text
abbrev pub shown_text : Grammar Lexeme Piece
shown_text = do
  n ← one (located text)
  done (QuotedText n.0 n.1)

-- The pieces by which a model text is watched, outside of the bodies of its dimensions. Their first tokens differ, and
-- none begins another, so a text can be cut in one way only. The end of a cube may have the words of any version.
abbrev pub piece : Grammar Lexeme Piece
piece = either version (either closing (either dimension_word (either cube_word (either script_word
    (either shown_text (either first_dimension (either next_dimension (cube_end true))))))))
