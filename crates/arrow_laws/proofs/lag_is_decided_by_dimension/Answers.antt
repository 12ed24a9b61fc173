use Rattle.arrow_laws.proofs.Lag.{lagged-decided, level-decided, weak-decided}
use Rattle.arrow_laws.proofs.lag_is_decided_by_dimension.Goals as goal

pub returns : goal.returns
returns c m cube s kind p valid ruled there is_area is =
    (lagged-decided m valid ruled cube there s is_area kind p is, level-decided m valid ruled cube there s is_area kind p is, weak-decided m valid ruled cube there s is_area kind p is)
