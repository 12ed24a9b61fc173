use Rattle.rule_laws.proofs.SystemFacts.{dense_value-only}
use Rattle.rule_laws.proofs.laws.only_dense_values_solve.Goals as goal

pub returns : goal.returns
returns c w stored formed ordered = dense_value-only w formed stored ordered
