use Rattle.model_laws.proofs.Formed.{well_formed}
use Rattle.model_laws.proofs.laws.models_are_well_formed.Goals as goal

pub returns : goal.returns
returns c m valid rules = well_formed m valid rules
