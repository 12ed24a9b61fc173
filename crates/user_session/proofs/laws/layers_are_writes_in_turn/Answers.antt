use Rattle.user_session.proofs.InTurn.{sandbox_is}
use Rattle.user_session.proofs.laws.layers_are_writes_in_turn.Goals as goal

pub returns : goal.returns
returns c = sandbox_is
