-- Those so far, and those of the statements that are left.
use Rattle.std.proofs.Common.{◌≡◌, ◌++◌, ◌-◌, length}
use Rattle.std.specs.List.{flat_map, range_with_len}
use Rattle.rule_model.specs.BoundModel.{rules_of}
use Rattle.ref_order.specs.Known.{IsKnownOf}
use Rattle.rule_notes.specs.Inside.Listed.{notes_at}
use Rattle.rule_notes.proofs.notes.add_cube.Given as goal

abbrev pub invariant-each : goal.invariant-each
invariant-each l = record {
  notes : l.notes.items ++ flat_map (notes_at l.model l.cube) (range_with_len l.place (length (rules_of l.model l.cube).statements - l.place))
      ≡ l.fn.notes.items ++ flat_map (notes_at l.model l.cube) (range_with_len 0 (length (rules_of l.model l.cube).statements));
  known : IsKnownOf l.model l.cube l.known;
}
