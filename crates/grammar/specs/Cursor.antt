-- What private functions say of a cursor.
use Rattle.std.specs.Prelude.{◌≡◌, ℕ, List, [], ◌∷◌, Option, Some, Result, Ok, Err}
use Rattle.cube_lex.specs.Lexeme.{Lexeme}
use Rattle.cube_lex.specs.Positions.{position_of, nowhere}
use Rattle.cube_lex.specs.declared.position.Position.{Position}
use Rattle.grammar.specs.declared.stop.Stop.{Stop}
use Rattle.grammar.specs.declared.stop.Stop.TheVariants as stops
use Rattle.grammar.specs.declared.cursor.Cursor.{Cursor}
use Rattle.grammar.specs.Reading.{Unexpected, Refused, Read, Reader}

-- what a function returned, seen by view, and the state and the tokens that it left, are what the reader gives, unless
-- memory ran out
abbrev pub Gives : {X R C A : Type 0} → (X → A) → Result X (Stop C) → R → List Lexeme → Read Lexeme R C A → Type 0
Gives view (Ok x) state tokens read = read ≡ Ok (view x, state, tokens)
Gives view (Err stops.Memory) state tokens read = Unit {0}
Gives view (Err (stops.Unexpected left)) state tokens read = read ≡ Err (Unexpected left)
Gives view (Err (stops.Refused cause)) state tokens read = read ≡ Err (Refused cause)

-- a function read from the cursor what the reader reads
abbrev pub Reads : {X S C A : Type 0} → (X → A) → Reader Lexeme S C A → Cursor S → Result X (Stop C) → Cursor S → Type 0
Reads view P old result new =
    Gives view result new.state new.tokens (P old.state old.tokens)

abbrev pub any_token : Lexeme → Option (Unit {0})
any_token t = Some tt

-- the place of the next token; where there is none, line 0
abbrev pub next_position : List Lexeme → Position
next_position [] = nowhere
next_position (t ∷ ts) = position_of t
