use Rattle.equations.specs.Equations.{Passing}
use Rattle.equations.proofs.RoundsFacts.{table_by_rounds-solves}
use Rattle.equations.proofs.table_by_rounds_solves.Goals as goal

pub returns : goal.returns
returns g c test depth rounds right none grounded enough = table_by_rounds-solves (Passing test) depth right grounded none rounds enough
