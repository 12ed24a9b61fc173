use Rattle.std.proofs.Common.{sym, ◌∙◌, ap, subst, arith}
use Rattle.solver.proofs.Stack.{left_below, Stacked-push, Stacked-pop, left_below-push}
use Rattle.solver.proofs.machine.answer.Goals as goal

pub turns-smaller-in-Begun : goal.turns-smaller-in-Begun
turns-smaller-in-Begun g c =
    let w = g.P.Problem.world c.args.problem.now c.args.memory.now in
    let turn = rw (c.turns.invariant.world, c.in-Asks.is) at c.in_ok-next.ensures.turn in
    let opened = rw (c.in_ok-next.ensures.world, c.turns.invariant.world, c.in-Begun.is) at c.in_ok-value-in-Asks.ensures.opened in
    let more = ap (left_below (g.P.Problem.waits w) (g.P.Problem.left w)) c.in_ok-push-in-Begun.ensures.items
    ∙ left_below-push (g.P.Problem.waits w) (g.P.Problem.left w) c.turns.below.items _ in
    let top = ap (λ f. g.P.Problem.left w f c.in-Asks.next) c.replace-frame.ensures.after in
    let waiting = ap (λ f. g.P.Problem.left w f c.turns.wanted) c.replace-frame.ensures.value in
    omega (arith, turn.2, opened.1, more, top, waiting)

pub turns-preserved-in-Begun : goal.turns-preserved-in-Begun
turns-preserved-in-Begun g c =
    let w = g.P.Problem.world c.args.problem.now c.args.memory.now in
    let turn = rw (c.turns.invariant.world, c.in-Asks.is) at c.in_ok-next.ensures.turn in
    let opened = rw (c.in_ok-next.ensures.world, c.turns.invariant.world, c.in-Begun.is) at c.in_ok-value-in-Asks.ensures.opened in
    let waits = subst (λ f. g.P.Problem.waits w f c.turns.wanted c.in-Asks.next) (sym c.replace-frame.ensures.value) turn.1 in
    let stacked = Stacked-push (g.P.Problem.waits w) (g.P.Problem.left w) c.args.question c.turns.below.items (record { question = c.turns.wanted; frame = c.replace-frame.result }) c.in-Asks.next c.turns.invariant.stacked waits in
    record {
      world = c.in_ok-value-in-Asks.ensures.world ∙ c.in_ok-next.ensures.world ∙ c.turns.invariant.world;
      later = g.met.P.Problem.later_later _ _ _ (g.met.P.Problem.later_later _ _ _ c.turns.invariant.later c.in_ok-next.ensures.later) c.in_ok-value-in-Asks.ensures.later;
      serves = subst (λ f. g.P.Problem.serves w f c.in-Asks.next) (sym c.replace-frame.ensures.after) opened.0;
      stacked = rw c.in_ok-push-in-Begun.ensures.items stacked;
    }

pub close-requires-clause-question : goal.close-requires-clause-question
close-requires-clause-question g c =
    let w = g.P.Problem.world c.args.problem.now c.args.memory.now in
    let stacked = rw c.in-Some.ensures.items at c.turns.invariant.stacked in
    let waits = (Stacked-pop (g.P.Problem.waits w) (g.P.Problem.left w) c.args.question c.pop.new.self.items c.in-Some.waiting c.turns.wanted stacked).1 in
    rw (c.in_ok-next.ensures.world, c.turns.invariant.world) (g.met.P.Problem.asked w _ _ _ waits)

pub give-requires-in-Some-clause-waits : goal.give-requires-in-Some-clause-waits
give-requires-in-Some-clause-waits g c =
    let w = g.P.Problem.world c.args.problem.now c.args.memory.now in
    let stacked = rw c.in-Some.ensures.items at c.turns.invariant.stacked in
    let waits = (Stacked-pop (g.P.Problem.waits w) (g.P.Problem.left w) c.args.question c.pop.new.self.items c.in-Some.waiting c.turns.wanted stacked).1 in
    rw (c.in_ok-close-in-Some.ensures.world, c.in_ok-next.ensures.world, c.turns.invariant.world, c.replace-done.ensures.after) waits

pub turns-smaller : goal.turns-smaller
turns-smaller g c =
    let w = g.P.Problem.world c.args.problem.now c.args.memory.now in
    let given = rw (c.in_ok-close-in-Some.ensures.world, c.in_ok-next.ensures.world, c.turns.invariant.world, c.replace-done.ensures.after) at c.in_ok-give-in-Some.ensures.left in
    let more = ap (left_below (g.P.Problem.waits w) (g.P.Problem.left w)) c.in-Some.ensures.items
    ∙ left_below-push (g.P.Problem.waits w) (g.P.Problem.left w) c.pop.new.self.items c.in-Some.waiting in
    omega (arith, given, more)

pub turns-preserved : goal.turns-preserved
turns-preserved g c =
    let w = g.P.Problem.world c.args.problem.now c.args.memory.now in
    let stacked = rw c.in-Some.ensures.items at c.turns.invariant.stacked in
    let down = (Stacked-pop (g.P.Problem.waits w) (g.P.Problem.left w) c.args.question c.pop.new.self.items c.in-Some.waiting c.turns.wanted stacked).0 in
    let world = c.in_ok-close-in-Some.ensures.world ∙ c.in_ok-next.ensures.world ∙ c.turns.invariant.world in
    let later = g.met.P.Problem.later_later in
    record {
      world = c.in_ok-give-in-Some.ensures.world ∙ world;
      later = later _ _ _ (later _ _ _ (later _ _ _ c.turns.invariant.later c.in_ok-next.ensures.later) c.in_ok-close-in-Some.ensures.later) c.in_ok-give-in-Some.ensures.later;
      serves = subst (λ v. g.P.Problem.serves v c.give-in-Some.new.frame c.in-Some.waiting.question) world c.in_ok-give-in-Some.ensures.serves;
      stacked = down;
    }
