use Rattle.std.proofs.Common.{take, subst, ap, ◌∙◌}
use Rattle.std.proofs.lemmas.List.{take_all}
use Rattle.std.specs.List.{flat_map}
use Rattle.cube_lex.specs.Written.{Spaces, spaced_size}
use Rattle.cube_lex.proofs.Spaced.{single, singles, spaces-none, spaces-more, within-begins}
use Rattle.cube_lex.proofs.pieces.push_pieces.Goals as goal

pub loop-piece-init : goal.loop-piece-init
loop-piece-init c = spaces-none c.args.out.now.items

pub loop-piece-preserved : goal.loop-piece-preserved
loop-piece-preserved c = spaces-more single c.args.out.now.items c.loop-piece.out.items c.write_piece.new.out.items c.args.pieces.now c.loop-piece.piece-index _ c.loop-piece-test.true c.loop-piece.invariant c.in_ok-write_piece.ensures.ok

pub returns-clause-ok : goal.returns-clause-ok
returns-clause-ok c = subst (Spaces c.args.out.now.items c.loop-piece.out.items) (ap (flat_map single) (take_all c.loop-piece.piece-index c.args.pieces.now c.loop-piece-test.false) ∙ singles c.args.pieces.now) c.loop-piece.invariant

pub returns-clause-begins : goal.returns-clause-begins
returns-clause-begins c = within-begins (spaced_size (flat_map single (take c.loop-piece.piece-index c.args.pieces.now))) c.args.out.now.items c.loop-piece.out.items (flat_map single (take c.loop-piece.piece-index c.args.pieces.now)) c.loop-piece.invariant
