-- Those so far, and those of the cubes that are left.
use Rattle.std.proofs.Common.{◌≡◌, ◌++◌, ◌-◌, length}
use Rattle.std.specs.List.{flat_map, range_with_len}
use Rattle.rule_notes.specs.Inside.Listed.{cube_notes}
use Rattle.rule_notes.proofs.notes.rule_notes.Given as goal

abbrev pub invariant-each : goal.invariant-each
invariant-each l =
    l.notes.items ++ flat_map (cube_notes l.model) (range_with_len l.cube (length l.model.space.cubes - l.cube))
    ≡ flat_map (cube_notes l.model) (range_with_len 0 (length l.model.space.cubes))
