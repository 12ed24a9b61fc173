use Rattle.order_laws.proofs.Earlier.{earlier-decided, decided-earlier}
use Rattle.order_laws.proofs.order_is_decided_by_dimension.Goals as goal

pub returns : goal.returns
returns c m cube statement kind p valid ruled there is_area is =
    (earlier-decided m valid ruled cube there statement is_area kind p is, decided-earlier m valid ruled cube there statement is_area kind p is)
