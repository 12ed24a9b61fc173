use Rattle.layers.proofs.Histories.{layered_history, layered_runs}
use Rattle.layers.proofs.laws.layered_runs_make_a_history.Goals as goal

pub returns-clause-history : goal.returns-clause-history
returns-clause-history g c = λ first layer users told log. layered_history g.W.Answering.answer g.W.Answering.after first log layer users told

pub returns-clause-runs : goal.returns-clause-runs
returns-clause-runs g c = λ first layer users told log. layered_runs g.W.Answering.answer g.W.Answering.after first log layer users told
