use Rattle.std.proofs.Common.{subst}
use Rattle.version_core.specs.Inside.Stored.{core_of}
use Rattle.version_core.specs.OneHistory.{IsOneHistory}
use Rattle.version_core.proofs.Cores.{sound_history}
use Rattle.version_core.proofs.state.Core.is_one_history.Goals as goal

pub returns : goal.returns
returns g c =
    let w = g.W.World in
    let i = c.self.inside in
    let core = core_of w.after w.cell_value (w.content i.opening.value) i.history.items i.memo.items i.users.items in
    subst (λ v. IsOneHistory w.effect w.after w.cell_value v) c.self.view_is (sound_history w.effect w.after w.cell_value core c.self.invariant.sound)
