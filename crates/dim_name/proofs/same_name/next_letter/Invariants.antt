use Rattle.std.proofs.Common.{◌≡◌, ◌≤◌, length}
use Rattle.dim_name.specs.Name.{key_of}
use Rattle.dim_name.proofs.same_name.next_letter.Given as goal

abbrev pub invariant-byte : goal.invariant-byte
invariant-byte l = (key_of l.rest ≡ key_of l.text) × (length l.rest ≤ length l.text)

abbrev pub decreases-byte : goal.decreases-byte
decreases-byte l = length l.rest
