use Rattle.dim_core.specs.Outline.{component_lists}
use Rattle.bind_arguments.proofs.BelowFacts.{AreMarked}
use Rattle.bind_arguments.proofs.marks.elements_below.Given as goal

-- what is marked so far
abbrev pub invariant-loop-done : goal.invariant-loop-done
invariant-loop-done l = AreMarked (component_lists l.dimension.elements) l.above l.order l.done l.marks.items
