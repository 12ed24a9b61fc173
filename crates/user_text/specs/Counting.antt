-- How many commands there may be.
use Rattle.std.specs.Prelude.{ℕ, ◌+◌, nat_lt, true, false, not, if◌then◌else◌, codes, Result, Ok, Err}
use Rattle.cube_lex.specs.Lexeme.{Lexeme}
use Rattle.cube_lex.specs.Positions.{position_of}
use Rattle.grammar.specs.Tokens.{is_sign}
use Rattle.grammar.specs.Watch.{Watch, each_token}
use Rattle.user_text.specs.declared.fault.TooMany.{TooMany}
use Rattle.user_text.specs.declared.counted.Counted.{Counted}

-- of all users together
abbrev pub most_commands : ℕ
most_commands = 65536

-- before the text's first token, where the users before have so many commands
abbrev pub counted_from : ℕ → Counted
counted_from before = record { commands = before; inside = false }

-- A command goes on to its `;`. Outside of one a token begins the next, which is refused where there are enough.
abbrev pub count : Counted → Lexeme → Result Counted TooMany
count c t =
    if c.inside then Ok (record { commands = c.commands; inside = not (is_sign (codes ";") t) })
    else if nat_lt c.commands most_commands then Ok (record { commands = c.commands + 1; inside = true })
    else Err (record { at = position_of t })

abbrev pub counting : Watch Lexeme Counted TooMany
counting = each_token count
