use Rattle.std.proofs.Common.{◌≡◌, map}
use Rattle.model_bind.specs.Foundation.{shape_of, order_lines}
use Rattle.model_bind.proofs.cubes.cubes_of.Given as goal

abbrev pub invariant-loop-cube : goal.invariant-loop-cube
invariant-loop-cube l = record {
  next : (goal.iterator-loop-cube).can_next l.cube-iterator;
  finite : (goal.iterator-loop-cube).is_finite l.cube-iterator;
  shapes : l.shapes.items ≡ map shape_of l.yielded;
  orders : l.orders.items ≡ order_lines l.yielded;
}
