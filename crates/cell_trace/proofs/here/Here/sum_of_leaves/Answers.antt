use Rattle.std.proofs.Common.{IfOk, ap, ◌∙◌, subst}
use Rattle.cell_reader.specs.Snapshots.{version_of}
use Rattle.cube_space.specs.Cells.{is_leaf_cell}
use Rattle.cell_trace.specs.Inside.Place.{Place}
use Rattle.cell_trace.specs.Inside.Sums.{IsOwnSum}
use Rattle.cell_trace.proofs.PlaceFacts.{own_sum_is}
use Rattle.cell_trace.proofs.here.Here.sum_of_leaves.Goals as goal

pub returns-clause-sum : goal.returns-clause-sum
returns-clause-sum c =
    let p : Place = record { version = version_of c.self.inside.version.now; cell = c.self.inside.cell } in
    let consolidated = ap (λ q. is_leaf_cell q.version.model.space q.cell) c.self.view_is ∙ c.requires.consolidated in
    subst (λ q. IfOk c.sum_of_leaves.result (IsOwnSum q)) c.self.view_is
    (own_sum_is p c.sum_of_leaves.result consolidated c.sum_of_leaves.ensures.value c.sum_of_leaves.ensures.lines)
