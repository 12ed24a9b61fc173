use Rattle.std.proofs.Common.{leb, ltb, not, ◌≡◌, ℕ, ◌∙◌, rules, arith}
use Rattle.std.proofs.lemmas.Bool.Decides.{nat_tests}
use Rattle.std.proofs.lemmas.List.Sorted.{IsPartitionPoint-from_clause, IsPartitionedBy-ltb}
use Rattle.rule_model.specs.declared.filed.FiledFeeder.{FiledFeeder}
use Rattle.lists.proofs.Point.{drop_at_point}
use Rattle.rule_model.proofs.Filing.{rest_taken}
use Rattle.rule_model.proofs.filed.at_least.Goals as goal

other : (n key : ℕ) → leb key n ≡ not (ltb n key)
other n key = grind (arith, nat_tests)

pub returns : goal.returns
returns c =
    let parted = IsPartitionedBy-ltb (λ (f : FiledFeeder). f.key) _ c.args.key c.requires in
    let point = IsPartitionPoint-from_clause (λ (f : FiledFeeder). ltb f.key c.args.key) _ _ c.partition_point.ensures.partitioned parted (λ a r q k. search rules) in
    rest_taken c.partition_point.result c.args.file.now
    ∙ drop_at_point (λ (f : FiledFeeder). ltb f.key c.args.key) (λ (f : FiledFeeder). leb c.args.key f.key) (λ f. other f.key c.args.key) _ _ c.partition_point.ensures.bound point.0 point.1
