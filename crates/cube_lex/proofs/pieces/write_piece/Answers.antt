use Rattle.cube_lex.proofs.pieces.write_piece.Goals as goal

pub returns-in-Sign-clause-ok : goal.returns-in-Sign-clause-ok
returns-in-Sign-clause-ok c = rw c.in-Sign.is c.write_sign.ensures.spaced
