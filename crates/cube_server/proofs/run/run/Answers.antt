use Rattle.cube_outside.specs.Bytes.{AppendsPart}
use Rattle.cube_server.specs.Inside.Ending.{joined}
use Rattle.file_passes.specs.Outside.{outside}
use Rattle.cube_words.specs.Words.{texts_of}
use Rattle.std.proofs.Common.{Err, ◌∙◌, ap, subst}
use Rattle.std.specs.Io.KnownBytes.{Appends}
use Rattle.cube_server.proofs.EndFacts.{Ends-whole, WritesPart-of}
use Rattle.cube_server.proofs.Pieces.{still}
use Rattle.cube_server.proofs.run.run.Goals as goal

pub returns-in-Ok-tell : goal.returns-in-Ok-tell
returns-in-Ok-tell g c =
    Ends-whole (texts_of c.args.words.now) (outside g.F.Files.seen c.args.files.now c.answer_of.new.files)
    (g.S.Sink.written c.args.out.now) (g.S.Sink.written c.tell.new.out) (g.S.Sink.faults c.args.out.now) (g.S.Sink.faults c.tell.new.out)
    c.in-Ok.answer.status (joined c.in-Ok.answer.pieces.items) c.in-Ok.ensures.allowed
    (subst (λ l. Appends (g.S.Sink.written c.args.out.now) (g.S.Sink.written c.tell.new.out) (joined l)) c.deref.ensures.value c.in-Ok-tell.ensures.all)
    (still c.in-Ok-tell.field-0 (g.S.Sink.faults c.args.out.now) (g.S.Sink.faults c.tell.new.out) c.in-Ok-tell.ensures.no_write_failed)

pub returns-in-Err-Failed : goal.returns-in-Err-Failed
returns-in-Err-Failed g c =
    let old = g.S.Sink.written c.args.out.now in
    let new = g.S.Sink.written c.tell.new.out in (
      WritesPart-of (texts_of c.args.words.now) (outside g.F.Files.seen c.args.files.now c.answer_of.new.files)
          old new c.in-Ok.answer.status (joined c.in-Ok.answer.pieces.items) c.in-Ok.ensures.allowed
          (subst (λ pieces. AppendsPart old new (joined pieces)) c.deref.ensures.value c.in-Err-Failed.ensures.part),
      c.tell.ensures.failed (c.in-Err-Failed.is ∙ ap Err c.in-Err-Failed.field-0-is),
    )
