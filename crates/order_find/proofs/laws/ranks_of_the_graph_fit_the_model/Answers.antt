use Rattle.order_find.proofs.Fitting.{fit-model}
use Rattle.order_find.proofs.laws.ranks_of_the_graph_fit_the_model.Goals as goal

pub returns : goal.returns
returns c p numbered ranks all fits are = fit-model p all numbered fits ranks are
