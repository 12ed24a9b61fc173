use Rattle.dim_core.proofs.OwnDefinitions.{element_accepted, written_finishes, written_is}
use Rattle.dim_core.proofs.laws.laws_of_own_definitions.Goals as goal

pub returns-clause-element : goal.returns-clause-element
returns-clause-element c = element_accepted

pub returns-clause-whole : goal.returns-clause-whole
returns-clause-whole c = written_finishes

pub returns-clause-same : goal.returns-clause-same
returns-clause-same c = written_is
