use Rattle.std.proofs.Common.{◌≡◌, ◌<◌, length, Some, sym, ◌∙◌}
use Rattle.version_core.specs.CoreState.{user_at}
use Rattle.version_core.specs.Inside.Stored.{core_of}
use Rattle.version_core.proofs.Finding.{on_err}
use Rattle.version_core.proofs.Steps.{user_here, give_done, stays, stays_stored}
use Rattle.version_core.proofs.state.Core.add_command.Goals as goal

pub invariant_of-self-2 : goal.invariant_of-self-2
invariant_of-self-2 g c =
    let w = g.W.World in
    let i = c.self.inside in
    let core = core_of w.after w.cell_value (w.content i.opening.value) i.history.items i.memo.items i.users.items in
    let below : c.in-Some.index < length i.users.items = rw c.deref.ensures.value at c.in-Some.ensures.1 in
    let here = user_here i.users.items c.args.user c.in-Some.index c.index_mut.result.now c.in-Some.ensures.0 below c.index_mut.ensures.value in
    let now : user_at c.args.self.now.users c.args.user ≡ Some c.index_mut.result.now = rw (sym c.self.view_is) here in
    let few = c.requires.few c.index_mut.result.now now in
    (give_done w.content w.effect w.after w.cell_value core i.versions.items c.args.user c.in-Some.index c.index_mut.result.now c.give.new.self c.args.command c.self.invariant c.in-Some.ensures.0 here few c.in_ok-give.ensures.ok).0

pub invariant_of-self : goal.invariant_of-self
invariant_of-self g c =
    let w = g.W.World in
    let i = c.self.inside in
    let core = core_of w.after w.cell_value (w.content i.opening.value) i.history.items i.memo.items i.users.items in
    let below : c.in-Some.index < length i.users.items = rw c.deref.ensures.value at c.in-Some.ensures.1 in
    let here = user_here i.users.items c.args.user c.in-Some.index c.index_mut.result.now c.in-Some.ensures.0 below c.index_mut.ensures.value in
    stays_stored w.content w.effect w.after w.cell_value core i.versions.items c.args.user c.in-Some.index c.index_mut.result.now c.give.new.self c.self.invariant c.in-Some.ensures.0 here c.in_err-give.ensures.err

pub returns-clause-given : goal.returns-clause-given
returns-clause-given g c =
    let w = g.W.World in
    let i = c.self.inside in
    let core = core_of w.after w.cell_value (w.content i.opening.value) i.history.items i.memo.items i.users.items in
    let below : c.in-Some.index < length i.users.items = rw c.deref.ensures.value at c.in-Some.ensures.1 in
    let here = user_here i.users.items c.args.user c.in-Some.index c.index_mut.result.now c.in-Some.ensures.0 below c.index_mut.ensures.value in
    let now : user_at c.args.self.now.users c.args.user ≡ Some c.index_mut.result.now = rw (sym c.self.view_is) here in
    let few = c.requires.few c.index_mut.result.now now in
    rw (sym c.self.view_is) (sym (give_done w.content w.effect w.after w.cell_value core i.versions.items c.args.user c.in-Some.index c.index_mut.result.now c.give.new.self c.args.command c.self.invariant c.in-Some.ensures.0 here few c.in_ok-give.ensures.ok).1)

pub returns-in_err-give-clause-err : goal.returns-in_err-give-clause-err
returns-in_err-give-clause-err g c =
    let w = g.W.World in
    let i = c.self.inside in
    let core = core_of w.after w.cell_value (w.content i.opening.value) i.history.items i.memo.items i.users.items in
    let below : c.in-Some.index < length i.users.items = rw c.deref.ensures.value at c.in-Some.ensures.1 in
    let here = user_here i.users.items c.args.user c.in-Some.index c.index_mut.result.now c.in-Some.ensures.0 below c.index_mut.ensures.value in
    on_err c.from_residual.result (stays w.content w.effect w.after w.cell_value core c.args.user c.in-Some.index c.index_mut.result.now c.give.new.self c.in-Some.ensures.0 here c.in_err-give.ensures.err ∙ c.self.view_is)
