-- What is passed by a jump isn't both stored or fed and below the cell.
use Rattle.std.proofs.Common.{◌∙◌}
use Rattle.cell_store.specs.Entries.{cells_of}
use Rattle.sparse_sum.proofs.Steps.{ended-live, ended-below, jumped, stepped}
use Rattle.sparse_sum.proofs.Placed.{word-is}
use Rattle.sparse_sum.proofs.walk.next_leaf.Goals as goal

pub returns-in_default-leaf_from-clause-left : goal.returns-in_default-leaf_from-clause-left
returns-in_default-leaf_from-clause-left g c =
    c.jumps.invariant.same ∙ ended-below c.args.space.now (cells_of c.args.stored.now) (g.W.CellSet.cells c.args.fed.now) c.args.cell c.size-cells.ensures.valid c.requires.cell
    c.jumps.from c.in-Some.next c.in-Some.ensures.next c.in_default-leaf_from.ensures.first

pub returns-then-leaf-next-clause-left : goal.returns-then-leaf-next-clause-left
returns-then-leaf-next-clause-left g c =
    let small = c.in-Some-leaf_from.ensures.size in
    rw (word-is c.in-Some-leaf_from.weight small)
    (c.jumps.invariant.same ∙ stepped c.args.space.now (cells_of c.args.stored.now) (g.W.CellSet.cells c.args.fed.now) c.args.cell c.size-cells.ensures.valid c.requires.cell
    c.jumps.from c.in-Some.next c.in-Some.ensures.next (c.in-Some-leaf_from.leaf, c.in-Some-leaf_from.weight) c.in-Some-leaf_from.ensures.first c.if-leaf-next.true)

pub jumps-preserved : goal.jumps-preserved
jumps-preserved g c = record {
  same = c.jumps.invariant.same ∙ jumped c.args.space.now (cells_of c.args.stored.now) (g.W.CellSet.cells c.args.fed.now) c.args.cell c.size-cells.ensures.valid c.requires.cell
      c.jumps.from c.in-Some.next c.in-Some.ensures.next (c.in-Some-leaf_from.leaf, c.in-Some-leaf_from.weight) c.in-Some-leaf_from.ensures.first;
}

pub returns-clause-left : goal.returns-clause-left
returns-clause-left g c =
    c.jumps.invariant.same ∙ ended-live c.args.space.now (cells_of c.args.stored.now) (g.W.CellSet.cells c.args.fed.now) c.args.cell c.size-cells.ensures.valid c.requires.cell
    c.jumps.from c.in_default.ensures.next
