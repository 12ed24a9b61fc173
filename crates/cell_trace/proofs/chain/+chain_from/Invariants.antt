use Rattle.std.proofs.Common.{◌-◌, length}
use Rattle.cell_trace.specs.Trace.{statements}
use Rattle.cell_trace.specs.Inside.Place.{scene_at}
use Rattle.cell_trace.proofs.chain.+chain_from.Given as goal

abbrev pub decreases-chain_from : goal.decreases-chain_from
decreases-chain_from l = length (statements (scene_at l.here.now)) - l.from
