use Rattle.cover_laws.proofs.Covered.{decided-covered, covered-decided}
use Rattle.cover_laws.proofs.cover_is_decided_by_dimension.Goals as goal

pub returns : goal.returns
returns c m cube statement r valid ruled there is_area is =
    (decided-covered m valid ruled cube there statement is_area r is, covered-decided m valid ruled cube there statement is_area r is)
