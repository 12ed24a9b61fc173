use Rattle.order_find.proofs.Turned.{circle-fits-none}
use Rattle.order_find.proofs.circle.no_ranks_fit_a_circle.Goals as goal

pub returns : goal.returns
returns c m links ranks circle fits = circle-fits-none m links ranks circle fits
