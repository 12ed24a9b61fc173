-- The last writes give the same entries as all.
use Rattle.std.proofs.Common.{◌≡◌, ℕ, ap, ◌∙◌, map}
use Rattle.cell_store.specs.Entries.{after_writes}
use Rattle.cell_store.specs.Inside.Entries.{cell_of, is_zero, entry_of}
use Rattle.cell_store.specs.Inside.Order.{after_entries, last_at}
use Rattle.cell_store.specs.Inside.Trees.{all_entries}
use Rattle.cell_store.proofs.Stores.{IsStore-after_writes, after-last_entries}
use Rattle.cell_store.proofs.store.Store.changed.Goals as goal

pub returns-clause-entries : goal.returns-clause-entries
returns-clause-entries c =
    let before = all_entries c.self.inside.tree in
    let same : (k : ℕ) → last_at cell_of c.in_ok-last.last.items k ≡ last_at cell_of (map entry_of c.args.writes.now) k = λ k. c.in_ok-last.ensures.last k ∙ ap (λ xs. last_at cell_of xs k) c.in_ok-entries.ensures in
    let is : all_entries c.in_ok-tree.tree ≡ after_entries cell_of is_zero before c.in_ok-last.last.items = rw c.deref.ensures.value at c.in_ok-tree.ensures.entries in
    let all : all_entries c.in_ok-tree.tree ≡ after_writes before c.args.writes.now = is ∙ after-last_entries before c.in_ok-last.last.items c.args.writes.now c.self.invariant.entries same in
    rw c.self.view_is at all

pub returns-clause-stored : goal.returns-clause-stored
returns-clause-stored c =
    let before = all_entries c.self.inside.tree in
    let same : (k : ℕ) → last_at cell_of c.in_ok-last.last.items k ≡ last_at cell_of (map entry_of c.args.writes.now) k = λ k. c.in_ok-last.ensures.last k ∙ ap (λ xs. last_at cell_of xs k) c.in_ok-entries.ensures in
    let is : all_entries c.in_ok-tree.tree ≡ after_entries cell_of is_zero before c.in_ok-last.last.items = rw c.deref.ensures.value at c.in_ok-tree.ensures.entries in
    let all : all_entries c.in_ok-tree.tree ≡ after_writes before c.args.writes.now = is ∙ after-last_entries before c.in_ok-last.last.items c.args.writes.now c.self.invariant.entries same in
    rw all (IsStore-after_writes before c.args.writes.now c.self.invariant.entries)
