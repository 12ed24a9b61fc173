use Rattle.cell_store.specs.Entries.{cells_of}
use Rattle.cell_values.proofs.BeginFacts.{leaves-all, leaves-begin}
use Rattle.cell_values.specs.declared.frames.LeafSum.{LeafSum}
use Rattle.cell_values.proofs.frames.LeafSum.new.Goals as goal
use Rattle.std.proofs.Common.{pos}

pub returns-clause-sum : goal.returns-clause-sum
returns-clause-sum c =
    let v = c.args.version.now in
    let s : LeafSum = record { walk = c.at.result; weight = pos 0 } in
    leaves-begin v c.args.cell s c.is_sound.ensures c.requires.cell c.requires.consolidated (c.live_cells_are_few.ensures v.model.space (cells_of v.stored) v.fed c.args.cell) c.at.ensures

pub returns-clause-all : goal.returns-clause-all
returns-clause-all c =
    let s : LeafSum = record { walk = c.at.result; weight = pos 0 } in
    leaves-all c.args.version.now c.args.cell s c.at.ensures
