use Rattle.std.proofs.Common.{map}
use Rattle.std.proofs.lemmas.List.{length-map}
use Rattle.cube_lex.specs.Piece.{token_of}
use Rattle.cube_lex.proofs.Spaced.{then_line, then_begins}
use Rattle.cube_lex.proofs.pieces.push_line.Goals as goal

pub returns-clause-ok : goal.returns-clause-ok
returns-clause-ok c = then_line c.write_line_end.result c.args.out.now.items c.push_pieces.new.out.items c.write_line_end.new.out.items (map token_of c.args.pieces.now)
    (simp length-map c.requires.some) c.in_ok-push_pieces.ensures.ok c.write_line_end.ensures.byte

pub returns-clause-begins : goal.returns-clause-begins
returns-clause-begins c = then_begins c.write_line_end.result c.args.out.now.items c.push_pieces.new.out.items c.write_line_end.new.out.items (map token_of c.args.pieces.now)
    c.in_ok-push_pieces.ensures.ok c.write_line_end.ensures.byte c.write_line_end.ensures.err
