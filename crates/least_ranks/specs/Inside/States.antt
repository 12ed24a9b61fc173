-- What a walk knows of a node.
use Rattle.std.specs.Prelude.{ℕ, Bool, true, false}
use Rattle.least_ranks.specs.declared.state.State.{State}
use Rattle.least_ranks.specs.declared.state.State.TheVariants.{New, Waiting, Ranked}

-- its rank, or 0 where it has none yet
abbrev pub rank_of : State → ℕ
rank_of New = 0
rank_of (Waiting place) = 0
rank_of (Ranked rank) = rank

-- whether the walk hasn't come to it
abbrev pub is_new : State → Bool
is_new New = true
is_new (Waiting place) = false
is_new (Ranked rank) = false
