use Rattle.model_laws.proofs.Ranks.{ranked}
use Rattle.model_laws.proofs.laws.models_are_ranked.Goals as goal

pub returns : goal.returns
returns c m = ranked m
