-- The last writes make the union, or the difference.
use Rattle.std.proofs.Common.{◌≡◌, ℕ, ap, sym, ◌∙◌, length}
use Rattle.std.proofs.lemmas.List.{length-map}
use Rattle.cell_store.specs.Inside.Order.{after_entries, last_at}
use Rattle.cell_store.specs.Inside.Sets.{member_cell, is_removed, members_of, tree_cells}
use Rattle.cell_store.specs.Inside.Trees.{all_entries}
use Rattle.cell_store.proofs.Sets.{still-rising, union_of, difference_of}
use Rattle.cell_store.proofs.set.PageSet.changed.Goals as goal

pub invariant_of-result : goal.invariant_of-result
invariant_of-result c =
    let before = all_entries c.self.inside.tree in
    let last = c.in_ok-last.last.items in
    let all = all_entries c.in_ok-tree.tree in
    let same : (k : ℕ) → last_at member_cell last k ≡ last_at member_cell (members_of c.args.gone c.args.cells.now) k =
    λ k. c.in_ok-last.ensures.last k ∙ ap (λ xs. last_at member_cell xs k) c.in_ok-members.ensures in
    let is : all ≡ after_entries member_cell is_removed before last = rw c.deref.ensures.value at c.in_ok-tree.ensures.entries in
    let count : c.in_ok-len.len ≡ length (tree_cells c.in_ok-tree.tree) = c.in_ok-len.ensures ∙ sym (length-map all member_cell) in
    record {
      sized = c.in_ok-tree.ensures.sized;
      rising = still-rising c.args.gone before last all c.args.cells.now c.self.invariant.rising same is;
      count = count;
    }

pub returns-clause-put_in : goal.returns-clause-put_in
returns-clause-put_in c =
    let before = all_entries c.self.inside.tree in
    let last = c.in_ok-last.last.items in
    let all = all_entries c.in_ok-tree.tree in
    let same : (k : ℕ) → last_at member_cell last k ≡ last_at member_cell (members_of c.args.gone c.args.cells.now) k =
    λ k. c.in_ok-last.ensures.last k ∙ ap (λ xs. last_at member_cell xs k) c.in_ok-members.ensures in
    let is : all ≡ after_entries member_cell is_removed before last = rw c.deref.ensures.value at c.in_ok-tree.ensures.entries in
    let union = union_of c.args.gone before last all c.args.cells.now c.self.invariant.rising same is in
    rw c.self.view_is at union

pub returns-clause-taken_out : goal.returns-clause-taken_out
returns-clause-taken_out c =
    let before = all_entries c.self.inside.tree in
    let last = c.in_ok-last.last.items in
    let all = all_entries c.in_ok-tree.tree in
    let same : (k : ℕ) → last_at member_cell last k ≡ last_at member_cell (members_of c.args.gone c.args.cells.now) k =
    λ k. c.in_ok-last.ensures.last k ∙ ap (λ xs. last_at member_cell xs k) c.in_ok-members.ensures in
    let is : all ≡ after_entries member_cell is_removed before last = rw c.deref.ensures.value at c.in_ok-tree.ensures.entries in
    let left = difference_of c.args.gone before last all c.args.cells.now c.self.invariant.rising same is in
    rw c.self.view_is at left
