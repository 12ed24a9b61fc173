-- The signs of a load's file: what stands between its columns, and between units and decimals of its numbers.
use Rattle.std.specs.Prelude.{ℕ, Bool, true, false, ◌||◌, ◌==◌, if◌then◌else◌, List, [], ◌∷◌, Option, Some, None, codes}
use Rattle.std.specs.Char.{is_ascii_digit}
use Rattle.cube_lex.specs.Lexeme.{Lexeme}
use Rattle.cube_fixed.specs.Text.{decimal_point}
use Rattle.cube_lex.specs.Quoted.{unquoted}
use Rattle.grammar.specs.Grammar.{Grammar, done, one, either, ◌>>◌}
use Rattle.grammar.specs.Tokens.{word, is_text_kind}

-- between columns, where a load says nothing else
abbrev pub comma : ℕ
comma = 44

-- what the word TAB means
abbrev pub tab : ℕ
tab = 9

-- what a file has for something else than these signs: digits, `+` and `-`, `"`, and what ends a line
abbrev pub has_other_use : ℕ → Bool
has_other_use byte =
    is_ascii_digit byte || ((byte == 43) || ((byte == 45) || ((byte == 34) || ((byte == 10) || (byte == 13)))))

-- the byte, where these bytes are one that may be a sign of a file
abbrev pub sign_in : List ℕ → Option ℕ
sign_in [] = None
sign_in (byte ∷ []) = if has_other_use byte then None else Some byte
sign_in (byte ∷ next ∷ rest) = None

-- the byte, unless it is this one
abbrev pub other_than : ℕ → Option ℕ → Option ℕ
other_than taken None = None
other_than taken (Some byte) = if byte == taken then None else Some byte

-- a quoted text that is a sign of a file
abbrev pub sign_text : Lexeme → Option ℕ
sign_text t = if is_text_kind t.kind then sign_in (unquoted t.piece) else None

-- the same, of a sign other than this one
abbrev pub sign_but : ℕ → Lexeme → Option ℕ
sign_but taken t = other_than taken (sign_text t)

-- Text | "TAB"
abbrev pub given_separator : Grammar Lexeme ℕ
given_separator = either (one sign_text) (do one (word (codes "TAB")); done tab)

-- [ "SEPARATOR" ( Text | "TAB" ) ]
abbrev pub separator : Grammar Lexeme ℕ
separator = either (do one (word (codes "SEPARATOR")); given_separator) (done comma)

-- "DECIMAL" Text, of a sign other than this one
abbrev pub given_decimal : ℕ → Grammar Lexeme ℕ
given_decimal byte = do one (word (codes "DECIMAL")); one (sign_but byte)

-- the same, which may be left out only where it needn't be there
abbrev pub decimal_by : Bool → ℕ → Grammar Lexeme ℕ
decimal_by true byte = given_decimal byte
decimal_by false byte = either (given_decimal byte) (done decimal_point)

-- [ "DECIMAL" Text ], behind what stands between columns: the two signs differ, so it has to be there where a point
-- stands between columns
abbrev pub decimal : ℕ → Grammar Lexeme ℕ
decimal byte = decimal_by (byte == decimal_point) byte
