use Rattle.std.proofs.Common.{◌≡◌, ◌==◌, ◌<◌, ◌||◌, ℕ, false, take, length, get_or}
use Rattle.std.specs.List.{list_any}
use Rattle.bind_arguments.proofs.marks.mark.Given as goal

-- those that were marked
abbrev pub invariant-loop-part : goal.invariant-loop-part
invariant-loop-part l = record {
  len : length l.marks.items ≡ length l.initial.marks.items;
  marks : (element : ℕ) → element < length l.marks.items → get_or l.marks.items element false ≡ (get_or l.initial.marks.items element false || list_any (λ part. part.0 == element) (take l.part-index l.parts));
}
