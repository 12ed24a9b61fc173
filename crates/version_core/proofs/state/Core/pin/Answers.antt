use Rattle.std.proofs.Common.{◌<◌, length, sym, ◌∙◌, ap, ℕ, not}
use Rattle.version_core.specs.declared.event.Event.TheVariants as event
use Rattle.version_core.specs.CoreState.{next_command}
use Rattle.version_core.specs.Events.{pinned}
use Rattle.version_core.specs.Inside.Stored.{core_of}
use Rattle.version_core.proofs.Finding.{copied_some}
use Rattle.version_core.proofs.Steps.{users_here, user_set_at, IsDone, pin_done}
use Rattle.version_core.proofs.state.Core.pin.Goals.{After-set_pin}
use Rattle.version_core.proofs.state.Core.pin.Goals as goal

done : (g : _) (c : After-set_pin g) →
    let w = g.W.World in
    let i = c.self.inside in
    let core = core_of w.after w.cell_value (w.content i.opening.value) i.history.items i.memo.items i.users.items in
    IsDone w.content w.effect w.after w.cell_value core (event.Pin c.args.user) (user_set_at w.content w.effect w.after w.cell_value core c.in-Some.index c.set_pin.new.self) i.versions.items
done g c =
    let w = g.W.World in
    let i = c.self.inside in
    let core = core_of w.after w.cell_value (w.content i.opening.value) i.history.items i.memo.items i.users.items in
    let below : c.in-Some.index < length i.users.items = rw c.deref.ensures.value at c.in-Some.ensures.1 in
    let found = users_here i.users.items c.args.user c.in-Some.index c.index.result.now c.index_mut.result.now c.in-Some.ensures.0 below c.index.ensures c.index_mut.ensures.value in
    let command = copied_some c.next_command.result (c.is_none.ensures ∙ ap not c.if-is_none.false) in
    let waits = ap next_command found.1 ∙ sym c.next_command.ensures ∙ command.1 in
    let is = c.set_pin.ensures ∙ ap (λ (n : ℕ). pinned c.index_mut.result.now n) (c.len-place.ensures ∙ i.history.ok.0) in
    pin_done w.content w.effect w.after w.cell_value core i.versions.items c.args.user c.in-Some.index c.index_mut.result.now c.set_pin.new.self command.0 c.self.invariant c.in-Some.ensures.0 found.0 waits is

pub invariant_of-self : goal.invariant_of-self
invariant_of-self g c = (done g (goal.at.invariant_of-self g c).After-set_pin).0

pub returns : goal.returns
returns g c = rw (sym c.self.view_is) (done g (goal.at.returns g c).After-set_pin).1
