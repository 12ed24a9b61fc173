use Rattle.rule_laws.proofs.SystemFacts.{dense_value-solves}
use Rattle.rule_laws.proofs.laws.dense_values_solve.Goals as goal

pub returns : goal.returns
returns c w stored formed ordered = dense_value-solves w formed stored ordered
