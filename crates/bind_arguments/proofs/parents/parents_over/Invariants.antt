use Rattle.std.proofs.Common.{◌≡◌, ◌<◌, ℕ, length}
use Rattle.bind_arguments.specs.Inside.Kin.{kin_at}
use Rattle.bind_arguments.proofs.KinFacts.{parents_below}
use Rattle.bind_arguments.proofs.parents.parents_over.Given as goal

-- the parents among the first elements
abbrev pub invariant-loop-parent : goal.invariant-loop-parent
invariant-loop-parent l = record {
  len : length l.parents.items ≡ length l.dimension.elements;
  kin : (element : ℕ) → element < length l.parents.items → kin_at l.parents.items element ≡ parents_below l.dimension l.parent element;
}
