use Rattle.std.proofs.Common.{sym, None}
use Rattle.std.proofs.lemmas.List.{replicate-append-replicate}
use Rattle.cell_trace.proofs.VisitParts.{behind_two}
use Rattle.cell_trace.proofs.visit.pass.Goals as goal

pub loop-preserved : goal.loop-preserved
loop-preserved c =
    behind_two c.args.items.now.items _ _ _ _ _ c.loop.invariant c.in_ok-push.ensures.items (sym (replicate-append-replicate c.loop.counter 1 None))
