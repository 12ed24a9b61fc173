use Rattle.std.proofs.Common.{◌≡◌, max, map, drop}
use Rattle.rule_model.specs.Order.{greatest}
use Rattle.bind_order.specs.Ranks.{leaf_rank}
use Rattle.bind_order.proofs.ranks.greatest_leaf.Given as goal

abbrev pub invariant-loop-pair : goal.invariant-loop-pair
invariant-loop-pair l =
    max l.best (greatest (map (λ pair. leaf_rank l.given pair.0) (drop l.pair-index l.leaves)))
    ≡ greatest (map (λ pair. leaf_rank l.given pair.0) l.leaves)
