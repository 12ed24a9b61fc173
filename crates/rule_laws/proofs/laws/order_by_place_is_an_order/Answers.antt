use Rattle.rule_laws.proofs.PlaceFacts.{ordered-by_place}
use Rattle.rule_laws.proofs.laws.order_by_place_is_an_order.Goals as goal

pub returns : goal.returns
returns c w ps formed ranked = ordered-by_place w ps formed ranked
