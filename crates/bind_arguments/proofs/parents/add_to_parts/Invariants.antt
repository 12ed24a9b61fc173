use Rattle.std.proofs.Common.{◌≡◌, ◌<◌, ◌==◌, ℕ, take, length}
use Rattle.std.specs.List.{list_any}
use Rattle.bind_arguments.specs.Inside.Kin.{kin_at, with_parent}
use Rattle.bind_arguments.proofs.parents.add_to_parts.Given as goal

-- the parents with those that were added
abbrev pub invariant-loop-part : goal.invariant-loop-part
invariant-loop-part l = record {
  len : length l.parents.items ≡ length l.initial.parents.items;
  kin : (element : ℕ) → element < length l.parents.items
      → kin_at l.parents.items element ≡ with_parent (kin_at l.initial.parents.items element) l.parent (list_any (λ part. part.0 == element) (take l.part-index l.parts));
}
