use Rattle.std.proofs.Common.{◌≡◌, ◌≤◌, ◌-◌, ℕ, [], length}
use Rattle.bind_arguments.specs.Inside.Kin.{kin_at}
use Rattle.bind_arguments.proofs.parents.no_parents.Given as goal

abbrev pub invariant-room : goal.invariant-room
invariant-room l = record {
  few : length l.parents.items ≤ l.len;
  none : (element : ℕ) → kin_at l.parents.items element ≡ [];
}

abbrev pub decreases-room : goal.decreases-room
decreases-room l = l.len - length l.parents.items
