-- The entries stay, and what is made are nodes.
use Rattle.std.proofs.Common.{◌≡◌, ◌++◌}
use Rattle.std.specs.List.{flat_map}
use Rattle.cell_store.specs.Inside.Levels.{AreNodes, entries_under}
use Rattle.cell_store.proofs.level.split.Given as goal

abbrev pub invariant-loop-alloc : goal.invariant-loop-alloc
invariant-loop-alloc g l = record {
  entries : flat_map (entries_under g.T.Part.entries) l.nodes.items ++ g.T.Part.entries l.part ≡ flat_map (entries_under g.T.Part.entries) l.initial.nodes.items ++ g.T.Part.entries l.initial.part;
  nodes : AreNodes g.E.Placed.cell g.T.Part.entries g.T.Part.is_sized g.T.Part.size g.T.Part.half l.nodes.items;
  sized : g.T.Part.is_sized l.part;
}

abbrev pub decreases-loop-alloc : goal.decreases-loop-alloc
decreases-loop-alloc g l = g.T.Part.size l.part
