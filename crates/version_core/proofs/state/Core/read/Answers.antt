use Rattle.std.proofs.Common.{◌<◌, length, sym, ◌∙◌}
use Rattle.version_core.specs.Inside.Stored.{core_of}
use Rattle.version_core.proofs.Steps.{user_here, read_done}
use Rattle.version_core.proofs.state.Core.read.Goals as goal

pub returns : goal.returns
returns g c =
    let w = g.W.World in
    let i = c.self.inside in
    let core = core_of w.after w.cell_value (w.content i.opening.value) i.history.items i.memo.items i.users.items in
    let below : c.in-Some.index < length i.users.items = rw c.deref.ensures.value at c.in-Some.ensures.1 in
    let read = user_here i.users.items c.args.user c.in-Some.index c.index.result.now c.in-Some.ensures.0 below c.index.ensures in
    let pin = sym c.pin.ensures ∙ c.in-Some-pin.is in
    rw (sym c.self.view_is) (read_done w.content w.effect w.after w.cell_value (w.content i.opening.value) i.history.items i.memo.items i.users.items c.args.user c.in-Some-pin.place c.args.cell c.index.result.now c.is_known.result read pin (rw c.deref-2.ensures.value at c.is_known.ensures))
