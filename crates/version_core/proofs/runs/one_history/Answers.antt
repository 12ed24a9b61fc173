use Rattle.version_core.specs.CoreState.{start}
use Rattle.version_core.specs.Acts.{acts_after}
use Rattle.version_core.proofs.Cores.{start_sound, sound_history}
use Rattle.version_core.proofs.Pins.{acts_keep, tells_from_start}
use Rattle.version_core.proofs.runs.one_history.Goals as goal

pub returns-clause-history : goal.returns-clause-history
returns-clause-history g c =
    λ first count acts.
    let w = g.W.World in
    sound_history w.effect w.after w.cell_value (acts_after w.effect w.after w.cell_value (start first count) acts)
    (acts_keep w.effect w.after w.cell_value (start first count) acts (start_sound w.effect w.after w.cell_value first count))

pub returns-clause-places : goal.returns-clause-places
returns-clause-places g c =
    λ first count acts act number.
    let w = g.W.World in
    tells_from_start w.effect w.after w.cell_value first count acts act number
