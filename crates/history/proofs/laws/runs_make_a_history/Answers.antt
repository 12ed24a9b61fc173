use Rattle.history.proofs.Histories.{runs_legal, runs_history}
use Rattle.history.proofs.laws.runs_make_a_history.Goals as goal

pub returns-clause-legal : goal.returns-clause-legal
returns-clause-legal g c = λ first. runs_legal g.W.World.effect g.W.World.after first

pub returns-clause-history : goal.returns-clause-history
returns-clause-history g c = λ first. runs_history g.W.World.effect g.W.World.after first
