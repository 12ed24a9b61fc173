-- The last entry of the last part.
use Rattle.std.specs.List.{flat_map}
use Rattle.cell_store.specs.Inside.Levels.{entries_under}
use Rattle.cell_store.proofs.InOrder.{EndsAt-append}
use Rattle.cell_store.proofs.level.LevelPart.last_cell.Goals as goal

pub returns-in-Some-clause-some : goal.returns-in-Some-clause-some
returns-in-Some-clause-some g c =
    EndsAt-append g.E.Placed.cell c.in-Some.cell (flat_map (entries_under g.T.Part.entries) c.args.self.now.nodes.items) (g.T.Part.entries c.args.self.now.last) c.in-Some.ensures.some
