use Rattle.std.proofs.Common.{◌∙◌, subst}
use Rattle.std.specs.Io.KnownBytes.{Appends}
use Rattle.cube_outside.specs.Bytes.{AppendsPart}
use Rattle.cube_server.proofs.Pieces.{Appends-piece, AppendsPart-fault, AppendsPart-piece, still}
use Rattle.cube_server.proofs.tell.tell.Goals as goal

pub returns-in-Err-clause-part : goal.returns-in-Err-clause-part
returns-in-Err-clause-part g c =
    let old = g.S.Sink.written c.args.out.now in
    let mid = g.S.Sink.written c.loop-piece.out in
    let new = g.S.Sink.written c.write.new.self in
    AppendsPart-piece old mid new c.args.pieces.now c.loop-piece.piece-index c.piece-item.result c.loop-piece-test.true c.piece-item.is
    c.loop-piece.invariant.written
    (subst (AppendsPart mid new) c.deref.ensures.value (AppendsPart-fault mid new c.deref.result.now c.in-Err.fault c.in-Err.ensures.part c.in-Err.ensures.nothing))

pub loop-piece-preserved : goal.loop-piece-preserved
loop-piece-preserved g c =
    let old = g.S.Sink.written c.args.out.now in
    let mid = g.S.Sink.written c.loop-piece.out in
    let new = g.S.Sink.written c.write.new.self in
    record {
      written = Appends-piece old mid new c.args.pieces.now c.loop-piece.piece-index c.piece-item.result c.loop-piece-test.true c.piece-item.is
          c.loop-piece.invariant.written (subst (Appends mid new) c.deref.ensures.value c.in_default.ensures.all);
      quiet = still c.in_default.field-0 (g.S.Sink.faults c.loop-piece.out) (g.S.Sink.faults c.write.new.self) c.in_default.ensures.no_write_failed ∙ c.loop-piece.invariant.quiet;
    }
