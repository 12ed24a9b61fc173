use Rattle.std.proofs.Common.{arith, sym, length-take, take-append-drop}
use Rattle.cube_lex.proofs.Sorts.{stands-some}
use Rattle.cube_lex.proofs.front.token.Goals as goal

pub returns : goal.returns
returns c = rw (c.split_at.ensures.front, c.split_at.ensures.back)
    (sym (take-append-drop c.args.len c.args.rest.now), (c.requires.stands, simp length-take (omega arith)), stands-some c.args.kind _ _ c.requires.stands)
