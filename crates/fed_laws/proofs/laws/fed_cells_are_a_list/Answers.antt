use Rattle.fed_laws.proofs.Reached.{list_fed, fed_list, list_rises}
use Rattle.fed_laws.proofs.laws.fed_cells_are_a_list.Goals as goal

pub returns-clause-rising : goal.returns-clause-rising
returns-clause-rising c w stored = list_rises w stored

pub returns-clause-cells : goal.returns-clause-cells
returns-clause-cells g w stored c formed = (list_fed w stored c, fed_list w stored formed c)
