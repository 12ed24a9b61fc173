-- What is done, and the rest of the nodes with the rest of the writes, are the whole.
use Rattle.std.proofs.Common.{◌≡◌, ◌++◌, drop}
use Rattle.std.specs.List.{flat_map}
use Rattle.cell_store.specs.Inside.Order.{IsRising, after_entries}
use Rattle.cell_store.specs.Inside.Levels.{IsLevel, entries_under, level_entries}
use Rattle.cell_store.proofs.level.LevelPart.add_changed.Given as goal

abbrev pub invariant-loop-node : goal.invariant-loop-node
invariant-loop-node g l = record {
  sized : IsLevel g.E.Placed.cell g.T.Part.entries g.T.Part.is_sized g.T.Part.size g.T.Part.half l.self;
  writes : IsRising g.E.Placed.cell l.rest;
  entries : level_entries g.T.Part.entries l.self ++ after_entries g.E.Placed.cell g.E.Stored.is_gone (flat_map (entries_under g.T.Part.entries) (drop l.node-index l.level.nodes.items) ++ g.T.Part.entries l.level.last) l.rest ≡ level_entries g.T.Part.entries l.initial.self ++ after_entries g.E.Placed.cell g.E.Stored.is_gone (level_entries g.T.Part.entries l.level) l.writes;
}
