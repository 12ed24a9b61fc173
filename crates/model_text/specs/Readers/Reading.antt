-- The readers of a model text, in the shape of the code.
use Rattle.std.specs.Prelude.{ℕ, Bool, true, false, ◌&&◌, if◌then◌else◌, List, [], ◌∷◌, Option, Some, None, codes, Err}
use Rattle.cube_lex.specs.Lexeme.{Lexeme}
use Rattle.cube_lex.specs.declared.position.Position.{Position}
use Rattle.grammar.specs.Watch.{unscanned}
use Rattle.grammar.specs.Reading.{unit_of, OutOfTurns, Reader, gives, take_one, choose, starts, all_of, checked}
use Rattle.grammar.specs.Reading.{inside_result, inside, ◌>>=◌, ◌>>◌}
use Rattle.grammar.specs.Lists.{read_listed}
use Rattle.grammar.specs.Tokens.{sign, word, whole, name, file, located, is_sign, is_word, is_number, is_text}
use Rattle.grammar.specs.declared.cursor.Unwatched.{Unwatched}
use Rattle.dim_text.specs.Progress.{Progress}
use Rattle.dim_text.specs.Readers.Reading.{read_body}
use Rattle.model_text.specs.Statement.{Piece, Version, Closing, DimensionWord, CubeWord, ScriptWord, QuotedText}
use Rattle.model_text.specs.Statement.{CubeDimension, CubeEnd, has_totals, number_of}
use Rattle.model_text.specs.Gathering.{Given, gathered}
use Rattle.model_text.specs.Watching.{Seen, with_given, head_of, with_block, of_block}
use Rattle.model_text.specs.declared.order.OrderWord.{OrderWord}
use Rattle.model_text.specs.declared.order.OrderWord.TheVariants as words
use Rattle.model_text.specs.declared.fault.ModelTextFault.{ModelTextFault}

-- a reader of a part of a piece, which nothing watches
abbrev pub Plain : Type 0 → Type 0
Plain A = Reader Lexeme Unwatched ModelTextFault A

unfoldable pub read_version : Plain Piece
read_version = do
  take_one unscanned (word (codes "MODEL"))
  n ← take_one unscanned (located whole)
  gives (Version n.0 n.1)

unfoldable pub read_closing : Plain Piece
read_closing = do
  take_one unscanned (sign (codes ";"))
  gives Closing

unfoldable pub read_dimension_word : Plain Piece
read_dimension_word = do
  place ← take_one unscanned (word (codes "DIM"))
  gives (DimensionWord place)

unfoldable pub read_cube_word : Plain Piece
read_cube_word = do
  place ← take_one unscanned (word (codes "CUBE"))
  gives (CubeWord place)

unfoldable pub read_script_word : Plain Piece
read_script_word = do
  place ← take_one unscanned (word (codes "SCRIPT"))
  gives (ScriptWord place)

unfoldable pub read_naming : Plain Piece
read_naming = do
  n ← take_one unscanned (located name)
  gives (QuotedText n.0 n.1)

unfoldable pub read_script_file : Plain Piece
read_script_file = do
  n ← take_one unscanned (located file)
  gives (QuotedText n.0 n.1)

unfoldable pub read_dimension_behind : List ℕ → Plain Piece
read_dimension_behind bytes = do
  take_one unscanned (sign bytes)
  n ← take_one unscanned (located name)
  gives (CubeDimension n.0 n.1)

unfoldable pub read_rules : Plain (Option (Position × List ℕ))
read_rules = choose (is_word (codes "RULES"))
    (do
      place ← take_one unscanned (word (codes "RULES"))
      bytes ← take_one unscanned file
      take_one unscanned (sign (codes ";"))
      gives (Some (place, bytes)))
    (gives None)

unfoldable pub read_rank : Plain (List ℕ × ℕ)
read_rank = do
  shown ← take_one unscanned name
  n ← take_one unscanned whole
  gives (shown, n)

unfoldable pub read_in_parentheses : Plain (List (List ℕ × ℕ))
read_in_parentheses = do
  take_one unscanned (sign (codes "("))
  list ← read_listed unscanned read_rank
  take_one unscanned (sign (codes ")"))
  gives list

-- by the next token, where the first may stand
abbrev pub choose_if : {A : Type 0} → Bool → (Lexeme → Bool) → Plain A → Plain A → Plain A
choose_if allowed p P Q s ts = if allowed && starts p ts then P s ts else Q s ts

unfoldable pub read_total_ranks : List ℕ → List (List ℕ × ℕ) → Plain OrderWord
read_total_ranks shown leaves = do
  take_one unscanned (word (codes "TOTALS"))
  totals ← read_in_parentheses
  gives (words.RanksByKind shown leaves totals)

-- behind the ranks of leaf cells
unfoldable pub read_behind_ranks : Bool → List ℕ → List (List ℕ × ℕ) → Plain OrderWord
read_behind_ranks totals shown leaves =
    choose_if totals (is_word (codes "TOTALS")) (read_total_ranks shown leaves) (gives (words.Ranks shown leaves))

-- behind the name of a position's dimension
unfoldable pub read_ranks : Bool → List ℕ → Plain OrderWord
read_ranks totals shown = choose (is_sign (codes "("))
    (do
      leaves ← read_in_parentheses
      read_behind_ranks totals shown leaves)
    (gives (words.Index shown))

unfoldable pub read_cell_kind : Plain OrderWord
read_cell_kind = do
  take_one unscanned (word (codes "TOTALS"))
  gives words.Totals

-- a position other than `TOTALS`
unfoldable pub read_ranked : Bool → Plain OrderWord
read_ranked totals = choose is_number
    (do
      n ← take_one unscanned whole
      gives (words.Constant n))
    (do
      shown ← take_one unscanned name
      read_ranks totals shown)

unfoldable pub read_position : Bool → Plain OrderWord
read_position totals = choose_if totals (is_word (codes "TOTALS")) read_cell_kind (read_ranked totals)

-- behind `AUTO`
unfoldable pub read_auto_totals : Bool → Plain Bool
read_auto_totals totals = choose_if totals (is_word (codes "TOTALS"))
    (do
      take_one unscanned (word (codes "TOTALS"))
      gives true)
    (gives false)

unfoldable pub read_lag : Plain (Option (List ℕ))
read_lag = choose is_text
    (do
      shown ← take_one unscanned name
      gives (Some shown))
    (gives None)

unfoldable pub read_auto : Bool → Plain (List OrderWord)
read_auto totals = do
  take_one unscanned (word (codes "AUTO"))
  kinds ← read_auto_totals totals
  shown ← read_lag
  gives (words.Auto kinds shown ∷ [])

unfoldable pub read_order_words : Bool → Plain (List OrderWord)
read_order_words totals =
    choose (is_word (codes "AUTO")) (read_auto totals) (read_listed unscanned (read_position totals))

unfoldable pub read_order : Bool → Plain (Option (Position × List OrderWord))
read_order totals = choose (is_word (codes "ORDER"))
    (do
      place ← take_one unscanned (word (codes "ORDER"))
      list ← read_order_words totals
      take_one unscanned (sign (codes ";"))
      gives (Some (place, list)))
    (gives None)

unfoldable pub read_cube_end : Bool → Plain Piece
read_cube_end totals = do
  take_one unscanned (sign (codes ")"))
  take_one unscanned (sign (codes ";"))
  r ← read_rules
  o ← read_order totals
  take_one unscanned (word (codes "END"))
  take_one unscanned (sign (codes ";"))
  gives (CubeEnd r o)

-- a reader of pieces outside of bodies
abbrev pub Gatherer : Type 0
Gatherer = Reader Lexeme Given ModelTextFault (Unit {0})

-- a piece that is gathered
abbrev pub gather : Plain Piece → Reader Lexeme Given ModelTextFault Piece
gather P = checked (record {}) gathered P

-- the version, whose number is kept
unfoldable pub gather_version : Reader Lexeme Given ModelTextFault ℕ
gather_version = do
  p ← gather read_version
  gives (number_of p)

abbrev pub gather_closing : Gatherer
gather_closing = unit_of (gather read_closing)

unfoldable pub gather_dimension_word : Gatherer
gather_dimension_word = unit_of (gather read_dimension_word)

unfoldable pub gather_cube_word : Gatherer
gather_cube_word = unit_of (gather read_cube_word)

unfoldable pub gather_script_word : Gatherer
gather_script_word = unit_of (gather read_script_word)

unfoldable pub gather_naming : Gatherer
gather_naming = unit_of (gather read_naming)

abbrev pub gather_script_file : Gatherer
gather_script_file = unit_of (gather read_script_file)

abbrev pub gather_first_dimension : Gatherer
gather_first_dimension = unit_of (gather (read_dimension_behind (codes "(")))

unfoldable pub gather_further_dimensions : Gatherer
gather_further_dimensions = unit_of (all_of (is_sign (codes ",")) (gather (read_dimension_behind (codes ","))))

unfoldable pub gather_cube_end : Bool → Gatherer
gather_cube_end totals = unit_of (gather (read_cube_end totals))

unfoldable pub read_opening : Reader Lexeme Given ModelTextFault ℕ
read_opening = do
  number ← gather_version
  gather_closing
  gives number

unfoldable pub read_dimension_head : Gatherer
read_dimension_head = do
  gather_dimension_word
  gather_naming
  gather_closing

unfoldable pub read_cube_head : Gatherer
read_cube_head = do
  gather_cube_word
  gather_naming

unfoldable pub read_cube_dimensions : Gatherer
read_cube_dimensions = do
  gather_first_dimension
  gather_further_dimensions

unfoldable pub read_cube : Bool → Gatherer
read_cube totals = do
  read_cube_head
  read_cube_dimensions
  gather_cube_end totals

unfoldable pub read_script : Gatherer
read_script = do
  gather_script_word
  gather_naming
  gather_script_file
  gather_closing

unfoldable pub read_cubes : Bool → Gatherer
read_cubes totals = unit_of (all_of (is_word (codes "CUBE")) (read_cube totals))

unfoldable pub read_scripts : Gatherer
read_scripts = unit_of (all_of (is_word (codes "SCRIPT")) read_script)

-- a reader of a model text
abbrev pub SeenReader : Type 0
SeenReader = Reader Lexeme Seen ModelTextFault (Unit {0})

abbrev pub outside : {A : Type 0} → Reader Lexeme Given ModelTextFault A → Reader Lexeme Seen ModelTextFault A
outside P = inside (λ s. s.given) with_given (λ s fault. fault) P

-- where a body begins with this, which only code behind a head answers
abbrev pub body_from : Option Progress → SeenReader
body_from None s ts = Err OutOfTurns
body_from (Some start) s ts = inside_result (with_block s) of_block (read_body start ts)

unfoldable pub read_dimension_body : SeenReader
read_dimension_body s ts = body_from (head_of s.given.current) s ts

unfoldable pub read_dimension : SeenReader
read_dimension = do
  outside read_dimension_head
  read_dimension_body

unfoldable pub read_dimensions : SeenReader
read_dimensions = unit_of (all_of (is_word (codes "DIM")) read_dimension)

unfoldable pub read_model : SeenReader
read_model = do
  number ← outside read_opening
  read_dimensions
  outside (read_cubes (has_totals number))
  outside read_scripts
