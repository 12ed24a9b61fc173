use Rattle.history.proofs.ByPlaces.{run_by_place, by_place_run}
use Rattle.history.proofs.laws.runs_are_read_by_place.Goals as goal

pub returns-clause-places : goal.returns-clause-places
returns-clause-places g c = λ first. run_by_place g.W.World.effect g.W.World.after first

pub returns-clause-run : goal.returns-clause-run
returns-clause-run g c = λ first. by_place_run g.W.World.effect g.W.World.after first
