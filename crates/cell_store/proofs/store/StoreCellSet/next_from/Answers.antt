-- The cell of the first entry is the first cell.
use Rattle.std.proofs.Common.{Option, ap, sym, ◌∙◌}
use Rattle.std.specs.Option.{option_map}
use Rattle.cell_store.specs.declared.entry.Entry.{Entry}
use Rattle.cell_store.specs.Inside.Entries.{cell_of}
use Rattle.cell_store.proofs.NextCells.{next_of_items}
use Rattle.cell_store.proofs.store.StoreCellSet.next_from.Goals as goal

pub returns-in-Some-clause-next : goal.returns-in-Some-clause-next
returns-in-Some-clause-next c =
    ap (λ (first : Option Entry). option_map (λ e. e.cell) first) c.in-Some.ensures.next ∙ sym (next_of_items cell_of c.args.self.now c.args.cell)

pub returns-in-None-clause-next : goal.returns-in-None-clause-next
returns-in-None-clause-next c =
    ap (λ (first : Option Entry). option_map (λ e. e.cell) first) c.in-None.ensures.next ∙ sym (next_of_items cell_of c.args.self.now c.args.cell)
