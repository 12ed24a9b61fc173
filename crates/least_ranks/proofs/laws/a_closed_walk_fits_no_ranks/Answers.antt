use Rattle.least_ranks.proofs.ClosedFacts.{no-ranks}
use Rattle.least_ranks.proofs.laws.a_closed_walk_fits_no_ranks.Goals as goal

pub returns : goal.returns
returns c graph steps ranks closed fits = no-ranks graph ranks fits steps closed
