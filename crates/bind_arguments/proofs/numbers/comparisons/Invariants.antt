use Rattle.std.proofs.Common.{◌≡◌, map}
use Rattle.std.specs.List.{range_with_len}
use Rattle.bind_arguments.proofs.NumbersMade.{same_texts}
use Rattle.bind_arguments.proofs.numbers.comparisons.Given as goal

-- the marks so far
abbrev pub invariant-loop-element : goal.invariant-loop-element
invariant-loop-element l = l.marks.items ≡ map (same_texts l.dimension l.one l.other) (range_with_len 0 l.element)
