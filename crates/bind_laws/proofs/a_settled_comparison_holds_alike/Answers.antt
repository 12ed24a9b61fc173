use Rattle.bind_laws.proofs.SureFacts.{settled-alike}
use Rattle.bind_laws.proofs.a_settled_comparison_holds_alike.Goals as goal

pub returns : goal.returns
returns c space cube sets test place table number dimension set element is own has leaf inside = settled-alike space cube sets test place table number dimension set element is own has leaf inside
