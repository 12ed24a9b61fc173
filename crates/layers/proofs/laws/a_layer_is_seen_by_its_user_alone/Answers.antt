use Rattle.layers.proofs.Alone.{determined, seen_alone}
use Rattle.layers.proofs.laws.a_layer_is_seen_by_its_user_alone.Goals as goal

pub returns-clause-determined : goal.returns-clause-determined
returns-clause-determined g c = λ first. determined g.W.Answering.answer g.W.Answering.after first

pub returns-clause-alone : goal.returns-clause-alone
returns-clause-alone g c = λ first. seen_alone g.W.Answering.answer g.W.Answering.after first
