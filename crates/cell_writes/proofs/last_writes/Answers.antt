-- A stable sort keeps the last writes, and so does each run of a cell that goes into its first write.
use Rattle.std.proofs.Common.{◌∙◌, ap, rules}
use Rattle.std.proofs.lemmas.List.Sorted.{IsNonDecreasingBy-from_sort_by_key, answers_always}
use Rattle.cell_writes.specs.Writes.{last_writes}
use Rattle.cell_writes.proofs.Found.{last_writes-sorted}
use Rattle.cell_writes.proofs.Runs.{last_writes-left}
use Rattle.cell_writes.proofs.last_writes.Goals as goal

pub returns : goal.returns
returns c =
    let sorted = IsNonDecreasingBy-from_sort_by_key (λ write. write.0) _ c.in_ok-sort_by_key.ensures.sorted (λ a r q k. search rules) in
    let stable = c.in_ok-sort_by_key.ensures.stable (λ write. write.0) (answers_always _ _ _ (λ f a r q called. search rules)) in
    last_writes-left _ (λ s later earlier same t later' earlier' h. (search rules, search rules, search rules)) _ _ _ sorted c.dedup_by.ensures.filtered
    ∙ (last_writes-sorted _ _ stable ∙ ap last_writes c.in_ok-last.ensures.items)
