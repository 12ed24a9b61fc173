use Rattle.std.proofs.Common.{arith}
use Rattle.cube_space.proofs.Places.{first_cell-next}
use Rattle.cube_space.proofs.Runs.{run-at}
use Rattle.cube_space.proofs.space.Space.cells.Goals as goal

pub overflow_sub-result : goal.overflow_sub-result
overflow_sub-result c =
    let run = run-at _ _ _ c.args.cube _ c.self.invariant c.self.view_is c.requires c.index-run.ensures in
    omega (arith, run.first, run.end, first_cell-next c.args.self.now c.args.cube)

pub returns : goal.returns
returns c =
    let run = run-at _ _ _ c.args.cube _ c.self.invariant c.self.view_is c.requires c.index-run.ensures in
    omega (arith, run.first, run.end, first_cell-next c.args.self.now c.args.cube)
