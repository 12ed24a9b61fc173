-- The tests of the runs' ends split them at the cell's run.
use Rattle.std.proofs.Common.{leb, rules, subst, sym, List}
use Rattle.std.specs.List.Sorted.{IsPartitionedBy}
use Rattle.std.proofs.lemmas.List.Sorted.{IsPartitionPoint-from_clause}
use Rattle.cube_space.specs.declared.run.Run.{Run}
use Rattle.cube_space.proofs.Runs.{ends-parted, found-at, IsFound}
use Rattle.cube_space.proofs.space.Space.run_of.Goals as goal

run-found : (c : goal.After-partition_point) → IsFound c.args.self.now c.args.cell c.partition_point.result
run-found c =
    let same = c.deref.ensures.value in
    let Parted : List Run → Type 0 = λ runs. IsPartitionedBy (λ run. leb run.end c.args.cell) runs in
    let parted = subst Parted (sym same) (ends-parted _ _ c.args.cell c.self.invariant) in
    let point = IsPartitionPoint-from_clause (λ run. leb run.end c.args.cell) _ _ c.partition_point.ensures.partitioned parted (λ a r q k. search rules) in
    found-at _ _ c.self.inside.runs.items c.deref.result.now c.args.cell c.partition_point.result c.self.invariant c.self.view_is same c.requires c.partition_point.ensures.bound point.0 point.1

pub returns-clause-within : goal.returns-clause-within
returns-clause-within c = (run-found c).there

pub returns-clause-from : goal.returns-clause-from
returns-clause-from c = (run-found c).from

pub returns-clause-before : goal.returns-clause-before
returns-clause-before c = (run-found c).before
