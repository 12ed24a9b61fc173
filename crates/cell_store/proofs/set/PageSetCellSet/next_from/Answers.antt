-- The cell of the first member is the first cell.
use Rattle.std.proofs.Common.{◌≡◌, Option, Some, None, ap, sym, ◌∙◌}
use Rattle.std.specs.Option.{option_map}
use Rattle.cell_store.specs.declared.member.Member.{Member}
use Rattle.cell_store.specs.Cells.{next_from}
use Rattle.cell_store.specs.Inside.Sets.{member_cell, tree_cells}
use Rattle.cell_store.specs.Inside.Trees.{all_entries}
use Rattle.cell_store.proofs.NextCells.{next_of_items}
use Rattle.cell_store.proofs.set.PageSetCellSet.next_from.Goals as goal

pub returns-in-Some-clause-next : goal.returns-in-Some-clause-next
returns-in-Some-clause-next c =
    let next : Some c.in-Some.member.cell ≡ next_from (tree_cells c.self.inside.tree) c.args.cell =
    ap (λ (first : Option Member). option_map member_cell first) c.in-Some.ensures ∙ sym (next_of_items member_cell (all_entries c.self.inside.tree) c.args.cell) in
    rw c.self.view_is at next

pub returns-in-None-clause-next : goal.returns-in-None-clause-next
returns-in-None-clause-next c =
    let next : None ≡ next_from (tree_cells c.self.inside.tree) c.args.cell =
    ap (λ (first : Option Member). option_map member_cell first) c.in-None.ensures ∙ sym (next_of_items member_cell (all_entries c.self.inside.tree) c.args.cell) in
    rw c.self.view_is at next
