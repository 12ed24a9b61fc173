use Rattle.std.proofs.Common.{◌≡◌, map}
use Rattle.std.specs.List.{range_with_len}
use Rattle.bind_arguments.specs.Numbers.{number_for}
use Rattle.bind_arguments.specs.declared.element_function.ElementFunction.TheVariants as functions
use Rattle.bind_arguments.proofs.numbers.parent_counts.Given as goal

-- the numbers so far
abbrev pub invariant-loop-element : goal.invariant-loop-element
invariant-loop-element l = l.numbers.items ≡ map (number_for l.dimension functions.ParentCount) (range_with_len 0 l.element)
