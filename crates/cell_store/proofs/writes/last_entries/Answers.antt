-- A stable sort keeps the last write of each cell.
use Rattle.std.proofs.Common.{rules, ap, ◌∙◌}
use Rattle.std.proofs.lemmas.List.Sorted.{IsNonDecreasingBy-from_sort_by_key, answers_always}
use Rattle.cell_store.specs.Inside.Order.{last_at}
use Rattle.cell_store.proofs.LastWrites.{last_at-sorted}
use Rattle.cell_store.proofs.writes.last_entries.Goals as goal

pub last_sorted-requires : goal.last_sorted-requires
last_sorted-requires g c = rw c.deref-2.ensures.value (IsNonDecreasingBy-from_sort_by_key g.E.Placed.cell _ c.in_ok-sort_by_key.ensures.sorted (λ a r q k. search rules))

pub returns-clause-last : goal.returns-clause-last
returns-clause-last g c =
    let stable = c.in_ok-sort_by_key.ensures.stable g.E.Placed.cell (answers_always _ _ _ (λ f a r q called. search rules)) in
    λ k. c.in_ok-last.ensures.last k ∙ (ap (λ xs. last_at g.E.Placed.cell xs k) c.deref-2.ensures.value ∙ last_at-sorted g.E.Placed.cell _ _ k stable)
