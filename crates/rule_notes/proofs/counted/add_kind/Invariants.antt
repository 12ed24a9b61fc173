-- Those so far, and those that are left.
use Rattle.std.proofs.Common.{◌≡◌, ◌++◌, drop, map}
use Rattle.ref_order.specs.Reads.{precedent_of}
use Rattle.rule_notes.specs.Inside.Named.{counted_view, for_kind}
use Rattle.rule_notes.proofs.counted.add_kind.Given as goal

abbrev pub invariant-each : goal.invariant-each
invariant-each l =
    map counted_view l.counted.items ++ map (for_kind l.kind) (map precedent_of (drop l.k l.reads))
    ≡ map counted_view l.fn.counted.items ++ map (for_kind l.kind) (map precedent_of l.reads)
