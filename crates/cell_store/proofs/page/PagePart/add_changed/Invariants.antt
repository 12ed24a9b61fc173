-- What is done, and the rest of the entries with the rest of the writes, are the whole.
use Rattle.std.proofs.Common.{◌≡◌, ◌++◌, drop}
use Rattle.cell_store.specs.Inside.Order.{IsRising, after_entries}
use Rattle.cell_store.proofs.page.PagePart.add_changed.Given as goal

abbrev pub invariant-loop-write : goal.invariant-loop-write
invariant-loop-write g l = record {
  rising : IsRising g.E.Placed.cell l.rest;
  entries : l.self.entries.items ++ after_entries g.E.Placed.cell g.E.Stored.is_gone l.rest (drop l.write-index l.writes) ≡ l.initial.self.entries.items ++ after_entries g.E.Placed.cell g.E.Stored.is_gone l.page.entries.items l.writes;
}
