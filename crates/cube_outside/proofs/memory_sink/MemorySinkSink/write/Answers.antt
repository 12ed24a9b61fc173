-- A failed write appends the front of its piece that it was told to keep.
use Rattle.std.proofs.Common.{rules, sym, min, length, take, drop, take-append-drop}
use Rattle.std.proofs.lemmas.Grind.{common_steps}
use Rattle.cube_outside.proofs.memory_sink.MemorySinkSink.write.Goals as goal

pub returns-clause-part : goal.returns-clause-part
returns-clause-part c = λ _.
    let kept = min c.in-Some.keep (length c.args.piece.now) in
    record {
      part = take kept c.args.piece.now;
      rest = drop kept c.args.piece.now;
      split = sym (take-append-drop kept c.args.piece.now);
      appends = search (rules, common_steps);
    }
