-- The first entry at or above the cell tells its number.
use Rattle.std.proofs.Common.{sym}
use Rattle.cell_store.proofs.Rising.{Rises-from_increasing}
use Rattle.cell_store.proofs.Numbers.{number_at-next, number_at-ended}
use Rattle.cell_store.proofs.store.Store.get.Goals as goal

pub returns-in-Some : goal.returns-in-Some
returns-in-Some c =
    number_at-next c.args.self.now c.args.cell c.in-Some.entry c.number_for.result (Rises-from_increasing _ c.in-Some.ensures.valid.rising) (sym c.in-Some.ensures.next) c.number_for.ensures.same c.number_for.ensures.other

pub returns-in-None : goal.returns-in-None
returns-in-None c = sym (number_at-ended c.args.self.now c.args.cell (sym c.in-None.ensures.next))
