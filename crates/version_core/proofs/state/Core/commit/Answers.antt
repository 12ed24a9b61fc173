use Rattle.std.proofs.Common.{◌≡◌, ◌+◌, ◌<◌, ◌++◌, ◌∷◌, [], length, Some, sym, ◌∙◌, refl, ap, arith}
use Rattle.std.specs.Option.{option_copied}
use Rattle.std.specs.Prelude.{slice_set, slice_index_or}
use Rattle.history.specs.declared.entry.Entry.{Entry}
use Rattle.version_core.specs.declared.event.Event.TheVariants as event
use Rattle.version_core.specs.CoreState.{user_at}
use Rattle.version_core.specs.Inside.Stored.{core_of}
use Rattle.version_core.proofs.Finding.{on_err}
use Rattle.version_core.proofs.Steps.{user_here, same_user, IsDone, stays, stays_stored, commit_late, commit_needs, commit_number, commit_done, entry_same}
use Rattle.version_core.proofs.state.Core.commit.Goals.{After-index, In-Some-tried, After-push_reserved-2}
use Rattle.version_core.proofs.state.Core.commit.Goals as goal

-- what stands at the index is the user of the number
at_index : (g : _) (c : After-index g) (user : _) → user ≡ slice_index_or c.self.inside.users.items c.in-Some.index user
    → user_at c.self.inside.users.items c.args.user ≡ Some user
at_index g c user is =
    let users = c.self.inside.users.items in
    let below : c.in-Some.index < length users = rw c.deref.ensures.value at c.in-Some.ensures.1 in
    user_here users c.args.user c.in-Some.index user c.in-Some.ensures.0 below is

-- and has the pin and the try that were read
tried : (g : _) (c : In-Some-tried g) (user : _) → user_at c.self.inside.users.items c.args.user ≡ Some user
    → (user.pin ≡ Some c.in-Some-pin.place) × (user.tried ≡ Some c.in-Some-tried.tried.now)
tried g c user here =
    let users = c.self.inside.users.items in
    let below : c.in-Some.index < length users = rw c.deref.ensures.value at c.in-Some.ensures.1 in
    let first = user_here users c.args.user c.in-Some.index c.index.result.now c.in-Some.ensures.0 below c.index.ensures in
    let second = user_here users c.args.user c.in-Some.index c.index-2.result.now c.in-Some.ensures.0 below c.index-2.ensures in
    let same_first = same_user users c.args.user user c.index.result.now here first in
    let same_second = same_user users c.args.user user c.index-2.result.now here second in
    (ap (λ u. u.pin) same_first ∙ sym c.pin.ensures ∙ c.in-Some-pin.is, ap (λ u. u.tried) same_second ∙ sym c.tried.ensures ∙ ap option_copied c.in-Some-tried.is)

pub returns-then-place-newest-clause-step : goal.returns-then-place-newest-clause-step
returns-then-place-newest-clause-step g c =
    let w = g.W.World in
    let i = c.self.inside in
    let core = core_of w.after w.cell_value (w.content i.opening.value) i.history.items i.memo.items i.users.items in
    let at = goal.at.returns-then-place-newest-clause-step g c in
    let here = at_index g at.After-index c.index.result.now c.index.ensures in
    let read = tried g at.In-Some-tried c.index.result.now here in
    let newest = c.len-newest.ensures ∙ i.history.ok.0 in
    let late = λ (e : c.in-Some-pin.place ≡ length i.history.items). c.if-place-newest.true (e ∙ sym newest) in
    rw (sym c.self.view_is) (commit_late w.content w.effect w.after w.cell_value core c.args.user c.in-Some-pin.place c.index.result.now c.in-Some-tried.tried.now here read.0 read.1 late, refl)

pub next-requires : goal.next-requires
next-requires g c =
    let w = g.W.World in
    let i = c.self.inside in
    let core = core_of w.after w.cell_value (w.content i.opening.value) i.history.items i.memo.items i.users.items in
    let here = at_index g (goal.at.next-requires g c).After-index c.index.result.now c.index.ensures in
    let read = tried g (goal.at.next-requires g c).In-Some-tried c.index.result.now here in
    let newest = c.len-newest.ensures ∙ i.history.ok.0 in
    let at = c.if-place-newest.false in
    let within : c.in-Some-pin.place < length i.versions.items = omega (arith, newest, at, c.self.invariant.all) in
    let state = rw (sym at) at c.index-3.ensures in
    record { accepted = commit_needs w.content w.effect w.after w.cell_value core i.versions.items c.args.user c.in-Some-pin.place c.index.result.now c.in-Some-tried.tried.now c.index-3.result.now c.self.invariant here read.0 read.1 within state }

pub commit-requires-clause-few : goal.commit-requires-clause-few
commit-requires-clause-few g c =
    let w = g.W.World in
    let i = c.self.inside in
    let core = core_of w.after w.cell_value (w.content i.opening.value) i.history.items i.memo.items i.users.items in
    let at = goal.at.commit-requires-clause-few g c in
    let here = at_index g at.After-index c.index_mut.result.now c.index_mut.ensures.value in
    commit_number w.content w.effect w.after w.cell_value core i.versions.items c.args.user c.index_mut.result.now c.in-Some-tried.tried.now c.self.invariant here (tried g at.In-Some-tried c.index_mut.result.now here).1

pub invariant_of-self-in_err-command : goal.invariant_of-self-in_err-command
invariant_of-self-in_err-command g c =
    let w = g.W.World in
    let i = c.self.inside in
    let core = core_of w.after w.cell_value (w.content i.opening.value) i.history.items i.memo.items i.users.items in
    let here = at_index g (goal.at.invariant_of-self-in_err-command g c).After-index c.index_mut.result.now c.index_mut.ensures.value in
    rw (c.in_ok-reserve.ensures.items, c.in_ok-reserve-2.ensures.items)
    (stays_stored w.content w.effect w.after w.cell_value core i.versions.items c.args.user c.in-Some.index c.index_mut.result.now c.commit.new.self c.self.invariant c.in-Some.ensures.0 here c.in_err-command.ensures.err)

pub returns-in_err-command-clause-err : goal.returns-in_err-command-clause-err
returns-in_err-command-clause-err g c =
    let w = g.W.World in
    let i = c.self.inside in
    let core = core_of w.after w.cell_value (w.content i.opening.value) i.history.items i.memo.items i.users.items in
    let here = at_index g (goal.at.returns-in_err-command-clause-err g c).After-index c.index_mut.result.now c.index_mut.ensures.value in
    on_err c.from_residual-in_err-command.result
    (rw c.in_ok-reserve-2.ensures.items (stays w.content w.effect w.after w.cell_value core c.args.user c.in-Some.index c.index_mut.result.now c.commit.new.self c.in-Some.ensures.0 here c.in_err-command.ensures.err ∙ c.self.view_is))

-- the commit is done, by the user that is written
done : (g : _) (c : After-push_reserved-2 g) → user_at c.self.inside.users.items c.args.user ≡ Some c.index_mut.result.now
    → (c.index_mut.result.now.pin ≡ Some c.in-Some-pin.place) × (c.index_mut.result.now.tried ≡ Some c.in-Some-tried.tried.now) →
    let w = g.W.World in
    let i = c.self.inside in
    let entry : Entry _ = record { user = c.args.user; command = c.in_ok-command.command; writes = c.in_ok-command.writes } in
    IsDone w.content w.effect w.after w.cell_value (core_of w.after w.cell_value (w.content i.opening.value) i.history.items i.memo.items i.users.items)
    (event.Commit c.args.user)
    (core_of w.after w.cell_value (w.content i.opening.value) (i.history.items ++ entry ∷ []) i.memo.items (slice_set i.users.items c.in-Some.index c.commit.new.self))
    (i.versions.items ++ c.in_ok-next.next ∷ [])
done g c here read =
    let w = g.W.World in
    let i = c.self.inside in
    let user = c.index_mut.result.now in
    let t = c.in-Some-tried.tried.now in
    let at = c.if-place-newest.false in
    let newest = at ∙ c.len-newest.ensures ∙ i.history.ok.0 in
    let state = rw (sym at) at c.index-3.ensures in
    let now = rw read.1 at c.in_ok-command.ensures.ok in
    let writes = rw read.1 at c.in_ok-command.ensures.writes in
    let entry_is = entry_same w.content w.effect w.after w.cell_value c.args.user c.in_ok-command.command (length user.told + 1) c.in_ok-command.writes t.writes c.in_ok-command.ensures.number writes in
    commit_done w.content w.effect w.after w.cell_value (w.content i.opening.value) i.history.items i.memo.items i.users.items i.versions.items c.args.user c.in-Some.index c.in-Some-pin.place user c.commit.new.self t c.index-3.result.now c.in_ok-next.next (record { user = c.args.user; command = c.in_ok-command.command; writes = c.in_ok-command.writes }) c.self.invariant c.in-Some.ensures.0 here read.0 newest read.1 now entry_is state c.in_ok-next.ensures.next

pub invariant_of-self-2 : goal.invariant_of-self-2
invariant_of-self-2 g c =
    let at = goal.at.invariant_of-self-2 g c in
    let here = at_index g at.After-index c.index_mut.result.now c.index_mut.ensures.value in
    let read = tried g at.In-Some-tried c.index_mut.result.now here in
    rw (c.push_reserved.ensures.items, c.push_reserved-2.ensures.items, c.in_ok-reserve.ensures.items, c.in_ok-reserve-2.ensures.items) (done g at.After-push_reserved-2 here read).0

pub returns-clause-step : goal.returns-clause-step
returns-clause-step g c =
    let at = goal.at.returns-clause-step g c in
    let here = at_index g at.After-index c.index_mut.result.now c.index_mut.ensures.value in
    let read = tried g at.In-Some-tried c.index_mut.result.now here in
    rw (sym c.self.view_is, c.push_reserved-2.ensures.items, c.in_ok-reserve-2.ensures.items) (done g at.After-push_reserved-2 here read).1
