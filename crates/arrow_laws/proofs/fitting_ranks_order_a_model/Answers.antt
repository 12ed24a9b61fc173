use Rattle.arrow_laws.proofs.Fitting.{fitting-ordered}
use Rattle.arrow_laws.proofs.fitting_ranks_order_a_model.Goals as goal

pub returns : goal.returns
returns c m ranks valid ruled one level fit = fitting-ordered m valid ranks fit one ruled level
