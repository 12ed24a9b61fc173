-- Which of the two comes first.
use Rattle.std.proofs.Common.{sym}
use Rattle.cell_store.proofs.Rising.{Rises-from_increasing}
use Rattle.sparse_sum.proofs.Nexts.{live-none, next-fed-only, next-stored-only, next-of-both}
use Rattle.sparse_sum.proofs.live.next_live.Goals as goal

pub returns-in-Some-next_from-clause-next : goal.returns-in-Some-next_from-clause-next
returns-in-Some-next_from-clause-next g c =
    (next-of-both c.args.stored.now (g.W.CellSet.cells c.args.fed.now) c.args.from c.in-Some.entry c.in-Some-next_from.cell c.first_of.result
    (Rises-from_increasing _ c.in-Some.ensures.valid.rising) (Rises-from_increasing _ c.in-Some-next_from.ensures.rising)
    (sym c.in-Some.ensures.next) (sym c.in-Some-next_from.ensures.next) c.first_of.ensures.fed c.first_of.ensures.stored).0

pub returns-in-Some-next_from-clause-stored : goal.returns-in-Some-next_from-clause-stored
returns-in-Some-next_from-clause-stored g c =
    (next-of-both c.args.stored.now (g.W.CellSet.cells c.args.fed.now) c.args.from c.in-Some.entry c.in-Some-next_from.cell c.first_of.result
    (Rises-from_increasing _ c.in-Some.ensures.valid.rising) (Rises-from_increasing _ c.in-Some-next_from.ensures.rising)
    (sym c.in-Some.ensures.next) (sym c.in-Some-next_from.ensures.next) c.first_of.ensures.fed c.first_of.ensures.stored).1

pub returns-in-None-next_from-clause-next : goal.returns-in-None-next_from-clause-next
returns-in-None-next_from-clause-next g c =
    (next-stored-only c.args.stored.now (g.W.CellSet.cells c.args.fed.now) c.args.from c.in-Some.entry
    (Rises-from_increasing _ c.in-Some.ensures.valid.rising) (sym c.in-Some.ensures.next) (sym c.in-None-next_from.ensures.next)).0

pub returns-in-None-next_from-clause-stored : goal.returns-in-None-next_from-clause-stored
returns-in-None-next_from-clause-stored g c =
    sym (next-stored-only c.args.stored.now (g.W.CellSet.cells c.args.fed.now) c.args.from c.in-Some.entry
    (Rises-from_increasing _ c.in-Some.ensures.valid.rising) (sym c.in-Some.ensures.next) (sym c.in-None-next_from.ensures.next)).1

pub returns-in-Some-next_from-2-clause-next : goal.returns-in-Some-next_from-2-clause-next
returns-in-Some-next_from-2-clause-next g c =
    (next-fed-only c.args.stored.now (g.W.CellSet.cells c.args.fed.now) c.args.from c.in-Some-next_from-2.cell
    (Rises-from_increasing _ c.in-Some-next_from-2.ensures.rising) (sym c.in-Some-next_from-2.ensures.next) (sym c.in-None.ensures.next)).0

pub returns-in-Some-next_from-2-clause-stored : goal.returns-in-Some-next_from-2-clause-stored
returns-in-Some-next_from-2-clause-stored g c =
    sym (next-fed-only c.args.stored.now (g.W.CellSet.cells c.args.fed.now) c.args.from c.in-Some-next_from-2.cell
    (Rises-from_increasing _ c.in-Some-next_from-2.ensures.rising) (sym c.in-Some-next_from-2.ensures.next) (sym c.in-None.ensures.next)).1

pub returns-in-None-next_from-2-clause-next : goal.returns-in-None-next_from-2-clause-next
returns-in-None-next_from-2-clause-next g c =
    live-none c.args.stored.now (g.W.CellSet.cells c.args.fed.now) c.args.from (sym c.in-None.ensures.next) (sym c.in-None-next_from-2.ensures.next)
