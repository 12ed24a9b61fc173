use Rattle.cell_trace.proofs.AddedUp.{added-up, others-add_up}
use Rattle.cell_trace.proofs.VisitLaws.{alike, meaning}
use Rattle.cell_trace.proofs.laws.printed_values_give_the_value.Goals as goal

pub returns-clause-sums : goal.returns-clause-sums
returns-clause-sums c values cells = (added-up values cells, others-add_up values cells)

pub returns-clause-formulas : goal.returns-clause-formulas
returns-clause-formulas c g h f cell = alike g h cell f

pub returns-clause-meaning : goal.returns-clause-meaning
returns-clause-meaning c = meaning
