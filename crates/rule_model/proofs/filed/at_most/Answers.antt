use Rattle.std.proofs.Common.{leb, rules}
use Rattle.std.proofs.lemmas.List.Sorted.{IsPartitionPoint-from_clause, IsPartitionedBy-leb}
use Rattle.rule_model.specs.declared.filed.FiledFeeder.{FiledFeeder}
use Rattle.lists.proofs.Point.{take_at_point}
use Rattle.rule_model.proofs.filed.at_most.Goals as goal

pub returns-clause-those : goal.returns-clause-those
returns-clause-those c =
    let parted = IsPartitionedBy-leb (λ (f : FiledFeeder). f.key) _ c.args.key c.requires in
    let point = IsPartitionPoint-from_clause (λ (f : FiledFeeder). leb f.key c.args.key) _ _ c.partition_point.ensures.partitioned parted (λ a r q k. search rules) in
    take_at_point (λ (f : FiledFeeder). leb f.key c.args.key) _ _ c.partition_point.ensures.bound point.0 point.1
