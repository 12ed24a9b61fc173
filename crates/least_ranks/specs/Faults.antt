-- What a fault says.
use Rattle.least_ranks.specs.declared.fault.RankFault.{RankFault}
use Rattle.least_ranks.specs.declared.fault.RankFault.TheVariants.{Cycle, Memory}
use Rattle.least_ranks.specs.Graph.{Arrows, IsClosedWalk}

-- a cycle is a closed walk of the graph with a step along a strict arrow
abbrev pub IsFault : Arrows → RankFault → Type 0
IsFault graph (Cycle steps) = IsClosedWalk graph steps.items
IsFault graph Memory = Unit {0}
