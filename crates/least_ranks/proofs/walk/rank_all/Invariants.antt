use Rattle.std.proofs.Common.{◌≡◌, drop}
use Rattle.least_ranks.specs.Inside.Trails.{rank_all}
use Rattle.least_ranks.proofs.walk.rank_all.Given as goal

abbrev pub invariant-loop-node : goal.invariant-loop-node
invariant-loop-node l = rank_all l.rank (drop l.node-index l.nodes) l.states ≡ rank_all l.rank l.nodes l.initial.states
