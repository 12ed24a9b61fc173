use Rattle.std.proofs.Common.{◌≡◌, ◌<◌, ℕ, length}
use Rattle.dim_weights.specs.Inside.Alike.{MayStandIn, stand_in}
use Rattle.dim_weights.proofs.alike.alike_of.Given as goal

abbrev pub invariant-loop-element : goal.invariant-loop-element
invariant-loop-element l = record {
  whole : length l.alike.items ≡ l.element;
  each : (k : ℕ) → k < l.element → MayStandIn l.dimension (stand_in l.alike.items k) k;
}
