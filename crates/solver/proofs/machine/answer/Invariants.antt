use Rattle.std.proofs.Common.{◌≡◌, ◌+◌}
use Rattle.solver.proofs.Stack.{Stacked, left_below}
use Rattle.solver.proofs.machine.answer.Given as goal

abbrev pub invariant-turns : goal.invariant-turns
invariant-turns g l = record {
  world : g.P.Problem.world l.problem l.memory ≡ g.P.Problem.world l.initial.problem l.initial.memory;
  later : g.P.Problem.later l.initial.memory l.memory;
  serves : g.P.Problem.serves (g.P.Problem.world l.initial.problem l.initial.memory) l.top l.wanted;
  stacked : Stacked (g.P.Problem.waits (g.P.Problem.world l.initial.problem l.initial.memory)) (g.P.Problem.left (g.P.Problem.world l.initial.problem l.initial.memory)) l.initial.wanted l.below.items l.wanted;
}

abbrev pub decreases-turns : goal.decreases-turns
decreases-turns g l =
    g.P.Problem.left (g.P.Problem.world l.initial.problem l.initial.memory) l.top l.wanted
    + left_below (g.P.Problem.waits (g.P.Problem.world l.initial.problem l.initial.memory)) (g.P.Problem.left (g.P.Problem.world l.initial.problem l.initial.memory)) l.below.items
