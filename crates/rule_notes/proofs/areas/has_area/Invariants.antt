-- The dimensions so far have it.
use Rattle.std.proofs.Common.{◌≡◌, ◌-◌, length}
use Rattle.std.specs.List.{list_all, range_with_len}
use Rattle.cube_space.specs.Layout.{axes}
use Rattle.rule_notes.specs.Inside.Areas.{has_set_at}
use Rattle.rule_notes.proofs.areas.has_area.Given as goal

abbrev pub invariant-each : goal.invariant-each
invariant-each l =
    list_all (has_set_at l.model.space l.cube l.outer l.inner) (range_with_len l.dim (length (axes l.model.space l.cube) - l.dim))
    ≡ list_all (has_set_at l.model.space l.cube l.outer l.inner) (range_with_len 0 (length (axes l.model.space l.cube)))
