-- The last node ends at the last cell.
use Rattle.std.proofs.Common.{◌≡◌, ◌-◌, length, Some, refl, sym}
use Rattle.std.specs.List.{slice_get}
use Rattle.cell_store.specs.Inside.Levels.{entries_under}
use Rattle.cell_store.proofs.InOrder.{EndsAt-flat}
use Rattle.cell_store.proofs.Levels.{node_at}
use Rattle.cell_store.proofs.level.last_of_nodes.Goals as goal

pub returns-in-Some-clause-some : goal.returns-in-Some-clause-some
returns-in-Some-clause-some g c =
    let nodes = c.args.nodes.now in
    let is : slice_get nodes (length nodes - 1) ≡ Some c.in-Some.node.now = sym c.in-Some.ensures.value in
    EndsAt-flat g.E.Placed.cell (entries_under g.T.Part.entries) c.in-Some.node.now.last nodes (length nodes - 1) c.in-Some.node.now refl is (node_at g.E.Placed.cell g.T.Part.entries g.T.Part.is_sized g.T.Part.size g.T.Part.half nodes (length nodes - 1) c.in-Some.node.now c.requires is).last
