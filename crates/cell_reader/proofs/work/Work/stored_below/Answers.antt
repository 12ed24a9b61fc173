use Rattle.std.proofs.Common.{rules, ◌≡◌, sym, subst, All}
use Rattle.cube_space.specs.Layout.{Layout}
use Rattle.cell_reader.specs.Works.{opening_of}
use Rattle.cell_reader.proofs.StoredCells.{IsLeaf, stored-leaves}
use Rattle.cell_reader.proofs.work.Work.stored_below.Goals as goal

-- each is a leaf cell of the model, which is that of the opening
pub returns-clause-leaves : goal.returns-clause-leaves
returns-clause-leaves c =
    let space = c.model.result.now.space in
    let leaves : All (IsLeaf space) c.in_ok-cells.cells.items =
    subst (All (IsLeaf space)) (sym c.in_ok-cells.ensures) (stored-leaves space c.store.result.now c.args.cell) in
    let same : space ≡ (opening_of c.args.self.now).model.space = search rules in
    subst (λ (s : Layout). All (IsLeaf s) c.in_ok-cells.cells.items) same leaves
