-- Those so far, and those that are left.
use Rattle.std.proofs.Common.{◌≡◌, ◌++◌, drop, map}
use Rattle.ref_order.specs.Counted.{for_both}
use Rattle.ref_order.specs.Reads.{precedent_of}
use Rattle.rule_notes.specs.Inside.Named.{counted_view}
use Rattle.rule_notes.proofs.counted.add_both.Given as goal

abbrev pub invariant-each : goal.invariant-each
invariant-each l =
    map counted_view l.counted.items ++ for_both (drop l.k (map precedent_of l.leaf)) (drop l.k (map precedent_of l.cons))
    ≡ map counted_view l.fn.counted.items ++ for_both (map precedent_of l.leaf) (map precedent_of l.cons)
