use Rattle.std.proofs.Common.{subst, sym, List, ℕ}
use Rattle.dim_order.specs.Inside.Ranks.{AreRanks}
use Rattle.dim_order.proofs.RankLemmas.{ranks_none}
use Rattle.dim_order.proofs.ranks.ranks_of.Goals as goal

pub returns-else-are_ranks : goal.returns-else-are_ranks
returns-else-are_ranks c =
    let P : List ℕ → Type 0 = AreRanks c.args.lists.now in
    subst P (sym c.new.ensures.items) (ranks_none c.args.lists.now)
