use Rattle.std.proofs.Common.{◌≡◌, ◌+◌, ◌^◌, ◌≤◌, length}
use Rattle.std.specs.Prelude.{fold}
use Rattle.cell_reader.specs.Snapshots.{version_of}
use Rattle.cell_trace.specs.Inside.Listed.{none_listed}
use Rattle.cell_trace.specs.Trace.{most_parts}
use Rattle.cell_trace.proofs.LiveCells.{live, live_left}
use Rattle.cell_trace.proofs.MoreParts.{others}
use Rattle.cell_trace.proofs.PartLines.{with_cell}
use Rattle.cell_values.specs.Reading.{value_on}
use Rattle.cube_fixed.specs.Total.{no_terms}
use Rattle.rule_laws.proofs.SystemFacts.{add_pair}
use Rattle.cell_trace.proofs.sums.sum_of_leaves.Given as goal

-- what is added and listed so far and what is still to come make up the whole
abbrev pub invariant-leaves : goal.invariant-leaves
invariant-leaves l = record {
  same : version_of l.reader ≡ version_of l.version;
  cell : l.walk.cell ≡ l.cell;
  room : l.walk.total.terms + length (live_left (version_of l.version) l.walk) ≤ 2 ^ 32;
  sum : fold (add_pair (value_on (version_of l.version))) l.walk.total (live_left (version_of l.version) l.walk)
      ≡ fold (add_pair (value_on (version_of l.version))) no_terms (live (version_of l.version) l.cell);
  parts : fold (with_cell (value_on (version_of l.version)) most_parts) l.parts (others (value_on (version_of l.version)) (live_left (version_of l.version) l.walk))
      ≡ fold (with_cell (value_on (version_of l.version)) most_parts) none_listed (others (value_on (version_of l.version)) (live (version_of l.version) l.cell));
}

abbrev pub decreases-leaves : goal.decreases-leaves
decreases-leaves l = length (live_left (version_of l.version) l.walk)
