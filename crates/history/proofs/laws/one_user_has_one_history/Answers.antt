use Rattle.history.proofs.OneUser.{one_user}
use Rattle.history.proofs.laws.one_user_has_one_history.Goals as goal

pub returns : goal.returns
returns g c = λ first. one_user g.W.World.effect g.W.World.after first
