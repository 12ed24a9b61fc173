use Rattle.std.proofs.Common.{◌≡◌, ◌++◌, drop}
use Rattle.view_query.proofs.LineFacts.{spread}
use Rattle.view_query.proofs.lines.each_with.Given as goal

abbrev pub invariant-loop-element : goal.invariant-loop-element
invariant-loop-element l = l.all.items ++ spread l.later (drop l.element-index l.elements) ≡ spread l.later l.elements
