use Rattle.std.proofs.Common.{◌≡◌, take}
use Rattle.std.specs.Io.KnownBytes.{Appends}
use Rattle.cube_server.specs.Inside.Ending.{joined}
use Rattle.cube_server.proofs.tell.tell.Given as goal

-- the pieces so far were written
abbrev pub invariant-loop-piece : goal.invariant-loop-piece
invariant-loop-piece g l = record {
  written : Appends (g.S.Sink.written l.fn.out) (g.S.Sink.written l.out) (joined (take l.piece-index l.pieces));
  quiet : g.S.Sink.faults l.out ≡ g.S.Sink.faults l.fn.out;
}
