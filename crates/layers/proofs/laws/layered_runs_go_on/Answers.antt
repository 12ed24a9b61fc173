use Rattle.layers.proofs.Runs.{layered_more, layered_one}
use Rattle.layers.proofs.laws.layered_runs_go_on.Goals as goal

pub returns-clause-beside : goal.returns-clause-beside
returns-clause-beside g c = λ first. layered_more g.W.Answering.answer g.W.Answering.after first

pub returns-clause-answered : goal.returns-clause-answered
returns-clause-answered g c = λ first. layered_one g.W.Answering.answer g.W.Answering.after first
