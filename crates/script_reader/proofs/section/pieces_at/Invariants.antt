use Rattle.std.proofs.Common.{◌≡◌, None}
use Rattle.grammar.specs.Tokens.{is_any_word}
use Rattle.grammar.proofs.After.{Turning}
use Rattle.script_reader.specs.Readers.TextReading.{section_after, read_piece_behind, read_pieces}
use Rattle.script_reader.proofs.section.pieces_at.Given as goal

abbrev pub invariant-piece : goal.invariant-piece
invariant-piece l =
    Turning is_any_word read_piece_behind l.pieces.items l.cursor.state l.cursor.tokens l.counter l.turns
    (read_pieces l.fn.cursor.state l.fn.cursor.tokens)
    × (l.section ≡ section_after None l.pieces.items)
