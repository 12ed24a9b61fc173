use Rattle.std.proofs.Common.{◌≡◌, ◌-◌, sym, None, List, length, slice_get, subst}
use Rattle.cube_space.specs.declared.run.Run.{Run}
use Rattle.cube_space.proofs.Places.{length-all_cells}
use Rattle.cube_space.proofs.Runs.{no-runs}
use Rattle.cube_space.proofs.space.Space.size.Goals as goal

pub returns-in-None-clause-size : goal.returns-in-None-clause-size
returns-in-None-clause-size c =
    let P : List Run → Type 0 = λ runs. None ≡ slice_get runs (length runs - 1) in
    no-runs _ _ _ c.self.invariant c.self.view_is (subst P c.deref.ensures.value c.in-None.ensures.value)

pub returns-in-None-clause-all : goal.returns-in-None-clause-all
returns-in-None-clause-all c = sym (length-all_cells c.args.self.now)

pub returns-in-Some-clause-all : goal.returns-in-Some-clause-all
returns-in-Some-clause-all c = sym (length-all_cells c.args.self.now)
