use Rattle.std.proofs.Common.{◌≡◌}
use Rattle.view_query.proofs.LoopFacts.{sought}
use Rattle.view_query.proofs.reading.element_in.Given as goal

abbrev pub invariant-loop-index : goal.invariant-loop-index
invariant-loop-index l = sought l.axes l.line l.place 0 ≡ sought l.axes l.line l.place l.index
