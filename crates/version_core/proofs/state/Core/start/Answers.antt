use Rattle.std.proofs.Common.{◌≡◌, refl, arith}
use Rattle.std.proofs.lemmas.List.{replicate_more}
use Rattle.version_core.specs.CoreState.{new_user}
use Rattle.version_core.proofs.Steps.{stored_start}
use Rattle.version_core.proofs.state.Core.start.Goals as goal

pub loop-preserved : goal.loop-preserved
loop-preserved g c = rw (c.in_ok-push-2.ensures.items, c.loop.invariant, c.new.ensures) (replicate_more c.loop.counter new_user)

pub invariant_of-result : goal.invariant_of-result
invariant_of-result g c =
    let w = g.W.World in
    let all : c.loop.counter ≡ c.args.users = omega arith in
    rw (c.of-opening.ensures, c.new-2.ensures.items, c.new-3.ensures.items, c.in_ok-push.ensures.items, c.new-versions.ensures.items, c.loop.invariant, all)
    (stored_start w.content w.effect w.after w.cell_value c.args.state c.args.users)

pub returns : goal.returns
returns g c =
    let all : c.loop.counter ≡ c.args.users = omega arith in
    record { started = rw (c.of-opening.ensures, c.new-2.ensures.items, c.new-3.ensures.items, c.loop.invariant, all) refl }
