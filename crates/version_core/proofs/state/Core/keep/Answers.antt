use Rattle.std.proofs.Common.{◌<◌, length, sym, ◌∙◌, refl}
use Rattle.version_core.specs.Inside.Stored.{core_of}
use Rattle.version_core.proofs.Steps.{user_here, keep_done, keep_again}
use Rattle.version_core.proofs.state.Core.keep.Goals as goal

pub invariant_of-self : goal.invariant_of-self
invariant_of-self g c =
    let w = g.W.World in
    let i = c.self.inside in
    let core = core_of w.after w.cell_value (w.content i.opening.value) i.history.items i.memo.items i.users.items in
    let below : c.in-Some.index < length i.users.items = rw c.deref.ensures.value at c.in-Some.ensures.1 in
    let read = user_here i.users.items c.args.user c.in-Some.index c.index.result.now c.in-Some.ensures.0 below c.index.ensures in
    let pin = sym c.pin.ensures ∙ c.in-Some-pin.is in
    rw c.in_ok-push.ensures.items (keep_done w.content w.effect w.after w.cell_value (w.content i.opening.value) i.history.items i.memo.items i.users.items i.versions.items c.args.user c.in-Some-pin.place c.args.cell c.index.result.now (record { version = c.in-Some-pin.place; cell = c.args.cell }) c.self.invariant read pin (sym (rw c.deref-2.ensures.value at c.is_known.ensures) ∙ c.if-not-is_known.true) refl).0

pub returns-in_ok-push-clause-step : goal.returns-in_ok-push-clause-step
returns-in_ok-push-clause-step g c =
    let w = g.W.World in
    let i = c.self.inside in
    let core = core_of w.after w.cell_value (w.content i.opening.value) i.history.items i.memo.items i.users.items in
    let below : c.in-Some.index < length i.users.items = rw c.deref.ensures.value at c.in-Some.ensures.1 in
    let read = user_here i.users.items c.args.user c.in-Some.index c.index.result.now c.in-Some.ensures.0 below c.index.ensures in
    let pin = sym c.pin.ensures ∙ c.in-Some-pin.is in
    rw (sym c.self.view_is, c.in_ok-push.ensures.items) (keep_done w.content w.effect w.after w.cell_value (w.content i.opening.value) i.history.items i.memo.items i.users.items i.versions.items c.args.user c.in-Some-pin.place c.args.cell c.index.result.now (record { version = c.in-Some-pin.place; cell = c.args.cell }) c.self.invariant read pin (sym (rw c.deref-2.ensures.value at c.is_known.ensures) ∙ c.if-not-is_known.true) refl).1

pub returns-else-not-is_known-clause-step : goal.returns-else-not-is_known-clause-step
returns-else-not-is_known-clause-step g c =
    let w = g.W.World in
    let i = c.self.inside in
    let core = core_of w.after w.cell_value (w.content i.opening.value) i.history.items i.memo.items i.users.items in
    let below : c.in-Some.index < length i.users.items = rw c.deref.ensures.value at c.in-Some.ensures.1 in
    let read = user_here i.users.items c.args.user c.in-Some.index c.index.result.now c.in-Some.ensures.0 below c.index.ensures in
    let pin = sym c.pin.ensures ∙ c.in-Some-pin.is in
    rw (sym c.self.view_is) (keep_again w.content w.effect w.after w.cell_value (w.content i.opening.value) i.history.items i.memo.items i.users.items c.args.user c.in-Some-pin.place c.args.cell c.index.result.now read pin (sym (rw c.deref-2.ensures.value at c.is_known.ensures) ∙ c.if-not-is_known.false))
