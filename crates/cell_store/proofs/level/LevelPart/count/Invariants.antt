-- The entries of the last part and of the nodes so far are counted.
use Rattle.std.proofs.Common.{◌≡◌, ◌+◌, length, take}
use Rattle.std.specs.List.{flat_map}
use Rattle.cell_store.specs.Inside.Levels.{entries_under}
use Rattle.cell_store.proofs.level.LevelPart.count.Given as goal

abbrev pub invariant-loop-node : goal.invariant-loop-node
invariant-loop-node g l = l.count ≡ length (flat_map (entries_under g.T.Part.entries) (take l.node-index l.self.nodes.items)) + length (g.T.Part.entries l.self.last)
