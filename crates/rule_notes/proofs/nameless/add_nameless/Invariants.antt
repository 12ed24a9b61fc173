-- The notes so far, and those of the references that are left.
use Rattle.std.proofs.Common.{◌≡◌, ◌++◌, ◌-◌, length, map}
use Rattle.std.specs.List.{flat_map, range_with_len}
use Rattle.ref_order.specs.Known.{IsKnown}
use Rattle.rule_notes.specs.Inside.Named.{counted_view, nameless_at, nameless_among}
use Rattle.rule_notes.proofs.nameless.add_nameless.Given as goal

abbrev pub invariant-each : goal.invariant-each
invariant-each l = record {
  notes : l.notes.items ++ flat_map (nameless_at l.view.model.now l.view.cube l.place l.area (map counted_view l.reads)) (range_with_len l.k (length (map counted_view l.reads) - l.k))
      ≡ l.fn.notes.items ++ nameless_among l.view.model.now l.view.cube l.place l.area (map counted_view l.reads);
  known : IsKnown l.view.model.now l.view.cube l.area l.known;
}
