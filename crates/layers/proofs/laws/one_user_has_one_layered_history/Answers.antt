use Rattle.layers.proofs.OneUser.{one_user}
use Rattle.layers.proofs.laws.one_user_has_one_layered_history.Goals as goal

pub returns : goal.returns
returns g c = λ first. one_user g.W.Answering.answer g.W.Answering.after first
