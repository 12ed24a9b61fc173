use Rattle.std.proofs.Common.{List, length}
use Rattle.std.specs.List.{All}
use Rattle.cube_lex.specs.Lexed.{IsWellFormed}
use Rattle.grammar.specs.Reading.{all_of}
use Rattle.grammar.specs.Tokens.{is_word}
use Rattle.grammar.proofs.Loops.{Going}
use Rattle.model_text.specs.Gathering.{Nothing, at}
use Rattle.model_text.specs.Readers.Later.{word_of, read_one}
use Rattle.model_text.specs.Readers.Views.{AreSame}
use Rattle.model_text.proofs.statements.statements_at.Given as goal

abbrev pub invariant-statement : goal.invariant-statement
invariant-statement l = (front : List (Unit {0}))
    × Going (is_word (word_of l.section)) (read_one l.fn.partial.version l.section) front (at l.partial Nothing) l.cursor.tokens (all_of (is_word (word_of l.section)) (read_one l.fn.partial.version l.section) (at l.fn.partial Nothing) l.fn.cursor.tokens)
    × AreSame l.fn.partial l.partial
    × All IsWellFormed l.cursor.tokens

abbrev pub decreases-statement : goal.decreases-statement
decreases-statement l = length l.cursor.tokens
