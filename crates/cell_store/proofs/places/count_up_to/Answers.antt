-- The tests of the cells split the items at the point that is found.
use Rattle.std.proofs.Common.{leb, ltb, rules}
use Rattle.std.proofs.lemmas.List.Sorted.{IsPartitionPoint-from_clause, IsPartitionedBy-leb}
use Rattle.lists.proofs.Point.{take_at_point, drop_at_point}
use Rattle.cell_store.proofs.InOrder.{IsNonDecreasingBy-from_rising, ltb_not_leb}
use Rattle.cell_store.proofs.places.count_up_to.Goals as goal

pub returns-clause-front : goal.returns-clause-front
returns-clause-front g c =
    let parted = IsPartitionedBy-leb g.T.Placed.cell _ c.args.cell (IsNonDecreasingBy-from_rising g.T.Placed.cell c.args.items.now c.requires) in
    let point = IsPartitionPoint-from_clause (λ x. leb (g.T.Placed.cell x) c.args.cell) _ _ c.partition_point.ensures.partitioned parted (λ a r q k. search rules) in
    take_at_point (λ x. leb (g.T.Placed.cell x) c.args.cell) _ _ c.partition_point.ensures.bound point.0 point.1

pub returns-clause-back : goal.returns-clause-back
returns-clause-back g c =
    let parted = IsPartitionedBy-leb g.T.Placed.cell _ c.args.cell (IsNonDecreasingBy-from_rising g.T.Placed.cell c.args.items.now c.requires) in
    let point = IsPartitionPoint-from_clause (λ x. leb (g.T.Placed.cell x) c.args.cell) _ _ c.partition_point.ensures.partitioned parted (λ a r q k. search rules) in
    drop_at_point (λ x. leb (g.T.Placed.cell x) c.args.cell) (λ x. ltb c.args.cell (g.T.Placed.cell x)) (λ x. ltb_not_leb c.args.cell (g.T.Placed.cell x)) _ _ c.partition_point.ensures.bound point.0 point.1
