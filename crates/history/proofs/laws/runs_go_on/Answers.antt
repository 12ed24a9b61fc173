use Rattle.history.proofs.Runs.{told_more, told_one}
use Rattle.history.proofs.laws.runs_go_on.Goals as goal

pub returns-clause-beside : goal.returns-clause-beside
returns-clause-beside g c =
    λ first log extra user told commands run none. told_more g.W.World.effect g.W.World.after first log extra user none 1 0 told commands run

pub returns-clause-answered : goal.returns-clause-answered
returns-clause-answered g c =
    λ first log extra user told commands command one found. told_one g.W.World.effect g.W.World.after first log extra user 1 0 told commands command one found
