-- A binary search ends at the first pair at or above the number.
use Rattle.std.proofs.Common.{rules, ◌∙◌, ap, ltb}
use Rattle.std.specs.List.{slice_get}
use Rattle.std.proofs.lemmas.List.Sorted.{IsPartitionPoint-from_clause}
use Rattle.sparse_sum.proofs.Pairs.{parted-by, first-of-point, up-to-end}
use Rattle.sparse_sum.proofs.candidates.searched_row.Goals as goal

pub returns : goal.returns
returns c =
    let point = IsPartitionPoint-from_clause (λ x. ltb x.0 c.args.from) _ _ c.partition_point-place.ensures.partitioned (parted-by c.args.leaves.now c.args.from c.requires) (λ a r q k. search rules) in
    c.copied.ensures ∙ (c.first.ensures.value ∙ (ap (λ items. slice_get items 0) (up-to-end c.args.leaves.now c.partition_point-place.result c.partition_point-place.ensures.bound) ∙ first-of-point c.args.leaves.now c.args.from c.partition_point-place.result point))
