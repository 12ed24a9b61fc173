use Rattle.equations.specs.Equations.{Passing}
use Rattle.equations.proofs.RoundsFacts.{table_by_rounds-only}
use Rattle.equations.proofs.only_table_by_rounds_solves.Goals as goal

pub returns : goal.returns
returns g c test depth rounds right none grounded enough = table_by_rounds-only (Passing test) depth right grounded none rounds enough
