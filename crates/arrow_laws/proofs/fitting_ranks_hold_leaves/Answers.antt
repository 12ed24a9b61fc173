use Rattle.arrow_laws.proofs.Fitting.{leaves-held}
use Rattle.arrow_laws.proofs.fitting_ranks_hold_leaves.Goals as goal

pub returns : goal.returns
returns c m ranks cube d valid fit there last = leaves-held m valid ranks fit cube d there last
