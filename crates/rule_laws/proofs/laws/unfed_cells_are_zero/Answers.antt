use Rattle.rule_laws.proofs.SparseFacts.{unfed-zero}
use Rattle.rule_laws.proofs.laws.unfed_cells_are_zero.Goals as goal

pub returns : goal.returns
returns c w stored formed ordered covered = unfed-zero w stored formed ordered covered
