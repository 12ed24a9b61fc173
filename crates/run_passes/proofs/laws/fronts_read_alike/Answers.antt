use Rattle.run_passes.proofs.Fronts.{fronts-alike}
use Rattle.run_passes.proofs.laws.fronts_read_alike.Goals as goal

pub returns : goal.returns
returns c = fronts-alike
