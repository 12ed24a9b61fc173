use Rattle.std.proofs.Common.{◌≡◌, ◌<◌, length, Some, sym, ◌∙◌, ap}
use Rattle.std.specs.Option.{option_copied}
use Rattle.std.specs.Prelude.{slice_set, slice_index_or}
use Rattle.version_core.specs.declared.event.Event.TheVariants as event
use Rattle.version_core.specs.CoreState.{next_command, user_at}
use Rattle.version_core.specs.Inside.Stored.{core_of, IsStored}
use Rattle.version_core.proofs.Finding.{copied_none, on_err}
use Rattle.version_core.proofs.Steps.{user_here, same_user, user_set_at, IsDone, stays, stays_stored, pin_within, version_here, version_set, try_done}
use Rattle.version_core.proofs.state.Core.attempt.Goals.{After-index, In-Some-pin, After-attempt, In_ok-take_effect}
use Rattle.version_core.proofs.state.Core.attempt.Goals as goal

-- what stands at the index is the user of the number
at_index : (g : _) (c : After-index g) (user : _) → user ≡ slice_index_or c.self.inside.users.items c.in-Some.index user
    → user_at c.self.inside.users.items c.args.user ≡ Some user
at_index g c user is =
    let users = c.self.inside.users.items in
    let below : c.in-Some.index < length users = rw c.deref.ensures.value at c.in-Some.ensures.1 in
    user_here users c.args.user c.in-Some.index user c.in-Some.ensures.0 below is

-- the pinned version is kept
within : (g : _) (c : In-Some-pin g) → user_at c.self.inside.users.items c.args.user ≡ Some c.index.result.now
    → c.in-Some-pin.place < length c.self.inside.versions.items
within g c read =
    let w = g.W.World in
    let i = c.self.inside in
    let core = core_of w.after w.cell_value (w.content i.opening.value) i.history.items i.memo.items i.users.items in
    pin_within w.content w.effect w.after w.cell_value core i.versions.items c.args.user c.in-Some-pin.place c.index.result.now c.self.invariant read (sym c.pin.ensures ∙ c.in-Some-pin.is)

-- the state that the command was tried on is of the same content
stored : (g : _) (c : After-attempt g) → c.in-Some-pin.place < length c.self.inside.versions.items
    → g.W.World.content c.attempt.new.state ≡ g.W.World.content c.index_mut.result.now →
    let w = g.W.World in
    let i = c.self.inside in
    let core = core_of w.after w.cell_value (w.content i.opening.value) i.history.items i.memo.items i.users.items in
    IsStored w.content w.effect w.after w.cell_value core (slice_set i.versions.items c.in-Some-pin.place c.attempt.new.state)
stored g c low kept =
    let w = g.W.World in
    let i = c.self.inside in
    let core = core_of w.after w.cell_value (w.content i.opening.value) i.history.items i.memo.items i.users.items in
    version_set w.content w.effect w.after w.cell_value core i.versions.items c.in-Some-pin.place c.index_mut.result.now c.attempt.new.state c.self.invariant low c.index_mut.ensures.value kept

pub index_mut-requires : goal.index_mut-requires
index_mut-requires g c =
    let at = goal.at.index_mut-requires g c in
    rw c.self.inside.versions.ok.0 (within g at.In-Some-pin (at_index g at.After-index c.index.result.now c.index.ensures))

pub invariant_of-self : goal.invariant_of-self
invariant_of-self g c =
    let at = goal.at.invariant_of-self g c in
    let low = within g at.In-Some-pin (at_index g at.After-index c.index.result.now c.index.ensures) in
    stored g at.After-attempt low c.in_err-found.ensures.kept

pub invariant_of-self-in_err-take_effect : goal.invariant_of-self-in_err-take_effect
invariant_of-self-in_err-take_effect g c =
    let w = g.W.World in
    let i = c.self.inside in
    let core = core_of w.after w.cell_value (w.content i.opening.value) i.history.items i.memo.items i.users.items in
    let at = goal.at.invariant_of-self-in_err-take_effect g c in
    let low = within g at.In-Some-pin (at_index g at.After-index c.index.result.now c.index.ensures) in
    let here = at_index g at.After-index c.index_mut-2.result.now c.index_mut-2.ensures.value in
    stays_stored w.content w.effect w.after w.cell_value core (slice_set i.versions.items c.in-Some-pin.place c.attempt.new.state) c.args.user c.in-Some.index c.index_mut-2.result.now c.take_effect.new.self (stored g at.After-attempt low c.in_ok-found.ensures.kept) c.in-Some.ensures.0 here c.in_err-take_effect.ensures.err

pub returns-in_err-take_effect-clause-err : goal.returns-in_err-take_effect-clause-err
returns-in_err-take_effect-clause-err g c =
    let w = g.W.World in
    let i = c.self.inside in
    let core = core_of w.after w.cell_value (w.content i.opening.value) i.history.items i.memo.items i.users.items in
    let here = at_index g (goal.at.returns-in_err-take_effect-clause-err g c).After-index c.index_mut-2.result.now c.index_mut-2.ensures.value in
    on_err c.from_residual-in_err-take_effect.result
    (stays w.content w.effect w.after w.cell_value core c.args.user c.in-Some.index c.index_mut-2.result.now c.take_effect.new.self c.in-Some.ensures.0 here c.in_err-take_effect.ensures.err ∙ c.self.view_is)

-- the try is done, by the user that is written
done : (g : _) (c : In_ok-take_effect g) →
    let w = g.W.World in
    let i = c.self.inside in
    let core = core_of w.after w.cell_value (w.content i.opening.value) i.history.items i.memo.items i.users.items in
    IsDone w.content w.effect w.after w.cell_value core (event.Try c.args.user) (user_set_at w.content w.effect w.after w.cell_value core c.in-Some.index c.take_effect.new.self) (slice_set i.versions.items c.in-Some-pin.place c.attempt.new.state)
done g c =
    let w = g.W.World in
    let i = c.self.inside in
    let core = core_of w.after w.cell_value (w.content i.opening.value) i.history.items i.memo.items i.users.items in
    let below : c.in-Some.index < length i.users.items = rw c.deref.ensures.value at c.in-Some.ensures.1 in
    let read = user_here i.users.items c.args.user c.in-Some.index c.index.result.now c.in-Some.ensures.0 below c.index.ensures in
    let pin = sym c.pin.ensures ∙ c.in-Some-pin.is in
    let low = pin_within w.content w.effect w.after w.cell_value core i.versions.items c.args.user c.in-Some-pin.place c.index.result.now c.self.invariant read pin in
    let kept = version_set w.content w.effect w.after w.cell_value core i.versions.items c.in-Some-pin.place c.index_mut.result.now c.attempt.new.state c.self.invariant low c.index_mut.ensures.value c.in_ok-found.ensures.kept in
    let here = user_here i.users.items c.args.user c.in-Some.index c.index_mut-2.result.now c.in-Some.ensures.0 below c.index_mut-2.ensures.value in
    let second = user_here i.users.items c.args.user c.in-Some.index c.index-2.result.now c.in-Some.ensures.0 below c.index-2.ensures in
    let third = user_here i.users.items c.args.user c.in-Some.index c.index-3.result.now c.in-Some.ensures.0 below c.index-3.ensures in
    let same = same_user i.users.items c.args.user c.index_mut-2.result.now c.index.result.now here read in
    let same_second = same_user i.users.items c.args.user c.index_mut-2.result.now c.index-2.result.now here second in
    let same_third = same_user i.users.items c.args.user c.index_mut-2.result.now c.index-3.result.now here third in
    let pin_here = ap (λ u. u.pin) same ∙ pin in
    let untried = ap (λ u. u.tried) same_second ∙ sym c.tried.ensures ∙ copied_none c.tried.result (sym c.is_some.ensures ∙ c.if-is_some.false) in
    let waits = ap next_command same_third ∙ sym c.next_command.ensures ∙ ap option_copied c.in-Some-next_command.is in
    let place_is = version_here w.content w.effect w.after w.cell_value core i.versions.items c.in-Some-pin.place c.index_mut.result.now c.self.invariant low c.index_mut.ensures.value in
    let effect_is = c.in_ok-found.ensures.attempted ∙ ap (λ k. w.effect k c.in-Some-next_command.command.now) place_is in
    try_done w.content w.effect w.after w.cell_value core (slice_set i.versions.items c.in-Some-pin.place c.attempt.new.state) c.args.user c.in-Some.index c.in-Some-pin.place c.index_mut-2.result.now c.take_effect.new.self c.in-Some-next_command.command.now c.in_ok-found.found kept c.in-Some.ensures.0 here pin_here untried waits effect_is c.in_ok-take_effect.ensures.ok

pub invariant_of-self-2 : goal.invariant_of-self-2
invariant_of-self-2 g c = (done g (goal.at.invariant_of-self-2 g c).In_ok-take_effect).0

pub returns-clause-step : goal.returns-clause-step
returns-clause-step g c = rw (sym c.self.view_is) (done g (goal.at.returns-clause-step g c).In_ok-take_effect).1
