use Rattle.std.proofs.Common.{◌<◌, length, sym, ◌∙◌, ap, not}
use Rattle.version_core.specs.declared.event.Event.TheVariants as event
use Rattle.version_core.specs.Inside.Stored.{core_of}
use Rattle.version_core.proofs.Finding.{some_from}
use Rattle.version_core.proofs.Steps.{users_here, user_set_at, IsDone, unpin_done}
use Rattle.version_core.proofs.state.Core.unpin.Goals.{After-unpin}
use Rattle.version_core.proofs.state.Core.unpin.Goals as goal

done : (g : _) (c : After-unpin g) →
    let w = g.W.World in
    let i = c.self.inside in
    let core = core_of w.after w.cell_value (w.content i.opening.value) i.history.items i.memo.items i.users.items in
    IsDone w.content w.effect w.after w.cell_value core (event.Unpin c.args.user) (user_set_at w.content w.effect w.after w.cell_value core c.in-Some.index c.unpin.new.self) i.versions.items
done g c =
    let w = g.W.World in
    let i = c.self.inside in
    let core = core_of w.after w.cell_value (w.content i.opening.value) i.history.items i.memo.items i.users.items in
    let below : c.in-Some.index < length i.users.items = rw c.deref.ensures.value at c.in-Some.ensures.1 in
    let found = users_here i.users.items c.args.user c.in-Some.index c.index.result.now c.index_mut.result.now c.in-Some.ensures.0 below c.index.ensures c.index_mut.ensures.value in
    let place = some_from c.pin.result (c.is_none.ensures ∙ ap not c.if-is_none.false) in
    let pin = ap (λ u. u.pin) found.1 ∙ sym c.pin.ensures ∙ place.1 in
    unpin_done w.content w.effect w.after w.cell_value core i.versions.items c.args.user c.in-Some.index c.index_mut.result.now c.unpin.new.self place.0 c.self.invariant c.in-Some.ensures.0 found.0 pin c.unpin.ensures

pub invariant_of-self : goal.invariant_of-self
invariant_of-self g c = (done g (goal.at.invariant_of-self g c).After-unpin).0

pub returns : goal.returns
returns g c = rw (sym c.self.view_is) (done g (goal.at.returns g c).After-unpin).1
