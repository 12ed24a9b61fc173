use Rattle.order_find.proofs.Fitting.{extended}
use Rattle.order_find.proofs.laws.ranks_of_the_model_fit_the_graph.Goals as goal

pub returns : goal.returns
returns c p ranks all fits = extended p ranks all fits
