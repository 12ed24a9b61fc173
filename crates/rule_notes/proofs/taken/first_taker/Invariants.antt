-- None so far does.
use Rattle.std.proofs.Common.{◌≡◌, ◌-◌}
use Rattle.std.specs.List.{find, range_with_len}
use Rattle.rule_notes.specs.Inside.Reached.{takes}
use Rattle.rule_notes.proofs.taken.first_taker.Given as goal

abbrev pub invariant-each : goal.invariant-each
invariant-each l =
    find (takes l.model l.cube l.kind l.area) (range_with_len l.by (l.count - l.by))
    ≡ find (takes l.model l.cube l.kind l.area) (range_with_len 0 l.count)
