use Rattle.std.proofs.Common.{◌≡◌, ◌-◌, ◌≤◌, All, length, take}
use Rattle.note_lines.specs.Notes.{cube_of}
use Rattle.note_lines.proofs.noted.cube_count.Given as goal

abbrev pub invariant-note : goal.invariant-note
invariant-note l = (l.count ≤ length l.found) × All (λ note. cube_of note ≡ l.cube) (take l.count l.found)

abbrev pub decreases-note : goal.decreases-note
decreases-note l = length l.found - l.count
