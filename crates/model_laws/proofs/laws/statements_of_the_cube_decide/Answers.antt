use Rattle.model_laws.proofs.Statements.{split, value-all, value-from_cube, governing-all, governing-from_cube, formula-at_cube}
use Rattle.model_laws.proofs.laws.statements_of_the_cube_decide.Goals as goal

pub returns-clause-all : goal.returns-clause-all
returns-clause-all g m stored table c cell = value-all m c (split m c cell) stored table

pub returns-clause-value : goal.returns-clause-value
returns-clause-value g m stored table c n cell = value-from_cube m c (split m c cell) stored table n

pub returns-clause-first : goal.returns-clause-first
returns-clause-first g m c cell = governing-all m c (split m c cell)

pub returns-clause-next : goal.returns-clause-next
returns-clause-next g m c n cell = governing-from_cube m c (split m c cell) n

pub returns-clause-formula : goal.returns-clause-formula
returns-clause-formula g m c n cell = formula-at_cube m c (split m c cell) n
