use Rattle.arrow_laws.proofs.Fitting.{rules-hold}
use Rattle.arrow_laws.proofs.fitting_ranks_make_orders.Goals as goal

pub returns : goal.returns
returns c m ranks valid ruled one fit node_ranks = rules-hold m valid ranks fit one ruled node_ranks
