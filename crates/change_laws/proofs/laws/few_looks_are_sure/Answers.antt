use Rattle.change_laws.proofs.Changes.{looks-fed}
use Rattle.change_laws.proofs.laws.few_looks_are_sure.Goals as goal

pub returns : goal.returns
returns c = looks-fed
