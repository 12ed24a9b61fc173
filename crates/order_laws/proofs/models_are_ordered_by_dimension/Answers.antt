use Rattle.order_laws.proofs.Ordered.{dimension-place, place-dimension}
use Rattle.order_laws.proofs.models_are_ordered_by_dimension.Goals as goal

pub returns : goal.returns
returns c m valid ruled = (dimension-place m valid ruled, place-dimension m valid ruled)
