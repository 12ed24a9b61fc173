use Rattle.model_format_laws.proofs.OrderFacts.{order_too}
use Rattle.model_format_laws.proofs.order_lines_stand_for_the_same_in_version_2.Goals as goal

pub returns : goal.returns
returns c space cube line order first is = order_too space cube line order first is
