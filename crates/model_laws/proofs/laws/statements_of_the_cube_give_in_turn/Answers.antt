use Rattle.model_laws.proofs.Statements.{turn-none, turn-some}
use Rattle.model_laws.proofs.laws.statements_of_the_cube_give_in_turn.Goals as goal

pub returns-clause-none : goal.returns-clause-none
returns-clause-none g m stored table c n = turn-none m stored table c n

pub returns-clause-some : goal.returns-clause-some
returns-clause-some g m stored table c n k = turn-some m stored table c n k
