-- The readers of a script's sections, in the shape of the code: pieces are read one behind the other, and gathered.
use Rattle.std.specs.Prelude.{ℕ, Bool, List, [], ◌∷◌, ◌++◌, Option, Some, None, codes}
use Rattle.cube_lex.specs.Lexeme.{Lexeme}
use Rattle.grammar.specs.After.{all_after}
use Rattle.grammar.specs.Reading.{gives, choose, ◌>>=◌, ◌>>◌}
use Rattle.grammar.specs.Tokens.{is_sign, is_word, is_any_word}
use Rattle.expression_grammar.specs.Limits.{most_inside}
use Rattle.expression_grammar.specs.Readers.Lookahead.{starts_pair, choose_pair}
use Rattle.script_reader.specs.Readers.Reading.{Plan, take_sign, take_word}
use Rattle.script_reader.specs.Readers.StatementReading.{read_within}
use Rattle.script_reader.specs.declared.section.Piece.{Piece}
use Rattle.script_reader.specs.declared.section.Piece.TheVariants as pieces
use Rattle.script_tree.specs.ScriptText.{script_of}
use Rattle.script_tree.specs.declared.line.Line.{Line}
use Rattle.script_tree.specs.declared.script.Script.{Script}
use Rattle.script_tree.specs.declared.script.Section.{Section}
use Rattle.script_tree.specs.declared.script.Section.TheVariants as sections

-- the section behind a piece
abbrev pub behind : Option Section → Piece → Option Section
behind section (pieces.Heading next) = Some next
behind section (pieces.Statement line) = section

-- the section behind pieces
abbrev pub section_after : Option Section → List Piece → Option Section
section_after section [] = section
section_after section (piece ∷ rest) = section_after (behind section piece) rest

unfoldable pub read_mark : List ℕ → Plan (Unit {0})
read_mark mark = do take_word mark; take_sign (codes ":")

unfoldable pub read_heading : List ℕ → Section → Plan Piece
read_heading mark section = do read_mark mark; gives (pieces.Heading section)

unfoldable pub read_line : Section → Plan Piece
read_line section = do line ← read_within section most_inside; gives (pieces.Statement line)

-- whether a section begins: its word, and then `:`
abbrev pub starts_heading : List ℕ → List Lexeme → Bool
starts_heading mark = starts_pair (is_word mark) (is_sign (codes ":"))

abbrev pub choose_heading : List ℕ → Section → Plan Piece → Plan Piece
choose_heading mark section other =
    choose_pair (is_word mark) (is_sign (codes ":")) (read_heading mark section) other

unfoldable pub read_first : Plan Piece
read_first = choose (is_word (codes "PROLOG")) (read_heading (codes "PROLOG") sections.Prolog)
    (choose (is_word (codes "DATA")) (read_heading (codes "DATA") sections.Body)
    (read_heading (codes "EPILOG") sections.Epilog))

unfoldable pub read_in_prolog : Plan Piece
read_in_prolog = choose_heading (codes "DATA") sections.Body
    (choose_heading (codes "EPILOG") sections.Epilog (read_line sections.Prolog))

unfoldable pub read_in_body : Plan Piece
read_in_body = choose_heading (codes "EPILOG") sections.Epilog (read_line sections.Body)

-- a piece, as they may come in a section
abbrev pub read_piece : Option Section → Plan Piece
read_piece None = read_first
read_piece (Some sections.Prolog) = read_in_prolog
read_piece (Some sections.Body) = read_in_body
read_piece (Some sections.Epilog) = read_line sections.Epilog

abbrev pub read_piece_behind : List Piece → Plan Piece
read_piece_behind before = read_piece (section_after None before)

unfoldable pub read_pieces : Plan (List Piece)
read_pieces = all_after is_any_word read_piece_behind []

-- the lines of each section, with one more where that stands in it
abbrev pub to_prolog : Option Section → List Line → Line → List Line
to_prolog None lines line = lines
to_prolog (Some sections.Prolog) lines line = lines ++ line ∷ []
to_prolog (Some sections.Body) lines line = lines
to_prolog (Some sections.Epilog) lines line = lines

abbrev pub to_body : Option Section → List Line → Line → List Line
to_body None lines line = lines
to_body (Some sections.Prolog) lines line = lines
to_body (Some sections.Body) lines line = lines ++ line ∷ []
to_body (Some sections.Epilog) lines line = lines

abbrev pub to_epilog : Option Section → List Line → Line → List Line
to_epilog None lines line = lines
to_epilog (Some sections.Prolog) lines line = lines
to_epilog (Some sections.Body) lines line = lines
to_epilog (Some sections.Epilog) lines line = lines ++ line ∷ []

-- what the sections have so far, and what further pieces add to them
abbrev pub gathered_from : List Line → List Line → List Line → Option Section → List Piece → Script
gathered_from prolog body epilog section [] = script_of prolog body epilog
gathered_from prolog body epilog section (pieces.Heading next ∷ rest) =
    gathered_from prolog body epilog (Some next) rest
gathered_from prolog body epilog section (pieces.Statement line ∷ rest) = gathered_from
    (to_prolog section prolog line) (to_body section body line) (to_epilog section epilog line) section rest

abbrev pub gathered : List Piece → Script
gathered all = gathered_from [] [] [] None all

unfoldable pub read_script : Plan Script
read_script = do all ← read_pieces; gives (gathered all)
