-- The cell of the last entry.
use Rattle.std.proofs.Common.{◌≡◌, ◌-◌, length, Some, refl, sym}
use Rattle.std.specs.List.{slice_get}
use Rattle.cell_store.proofs.InOrder.{EndsAt-from_get}
use Rattle.cell_store.proofs.page.PagePart.last_cell.Goals as goal

pub returns-in-Some-clause-some : goal.returns-in-Some-clause-some
returns-in-Some-clause-some g c =
    let items = c.args.self.now.entries.items in
    let is : slice_get items (length items - 1) ≡ Some c.in-Some.entry.now = rw c.deref.ensures.value at (sym c.in-Some.ensures.value) in
    rw c.cell.ensures (EndsAt-from_get g.E.Placed.cell items (length items - 1) c.in-Some.entry.now refl is)
