use Rattle.std.proofs.Common.{length}
use Rattle.cube_lex.proofs.Steps.{Passing}
use Rattle.cube_lex.proofs.found.found_from.Given as goal

abbrev pub invariant-parts : goal.invariant-parts
invariant-parts l = Passing l.text l.fn.start l.fn.first l.fn.left l.at l.line l.rest

abbrev pub decreases-parts : goal.decreases-parts
decreases-parts l = length l.rest
