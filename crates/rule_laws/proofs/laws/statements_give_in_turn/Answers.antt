use Rattle.std.proofs.Common.{refl}
use Rattle.rule_laws.proofs.StatementFacts.{from-none, from-some}
use Rattle.rule_laws.proofs.laws.statements_give_in_turn.Goals as goal

pub returns-clause-all : goal.returns-clause-all
returns-clause-all g w stored table c = refl

pub returns-clause-none : goal.returns-clause-none
returns-clause-none g w stored table c n = from-none w c stored table n

pub returns-clause-some : goal.returns-clause-some
returns-clause-some g w stored table c n m = from-some w c stored table n m
