use Rattle.std.proofs.Common.{◌≡◌}
use Rattle.bind_arguments.specs.Argument.{table_over}
use Rattle.bind_arguments.specs.Inside.Families.{AreFamiliesIn}
use Rattle.bind_arguments.proofs.giving.elements_given.Given as goal

-- the elements so far
abbrev pub invariant-loop-element : goal.invariant-loop-element
invariant-loop-element l = record {
  given : l.to.items ≡ table_over l.space l.dim l.argument l.element;
  families : AreFamiliesIn l.space l.families;
}
