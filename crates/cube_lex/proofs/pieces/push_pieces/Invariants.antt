use Rattle.std.proofs.Common.{take}
use Rattle.std.specs.List.{flat_map}
use Rattle.cube_lex.specs.Written.{Spaces}
use Rattle.cube_lex.proofs.Spaced.{single}
use Rattle.cube_lex.proofs.pieces.push_pieces.Given as goal

abbrev pub invariant-loop-piece : goal.invariant-loop-piece
invariant-loop-piece l = Spaces l.fn.out.items l.out.items (flat_map single (take l.piece-index l.pieces))
