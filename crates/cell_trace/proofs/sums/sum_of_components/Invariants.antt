use Rattle.std.proofs.Common.{◌≡◌, ◌≤◌, take}
use Rattle.std.specs.Prelude.{fold}
use Rattle.cell_reader.specs.Snapshots.{version_of}
use Rattle.cell_trace.specs.Inside.Listed.{none_listed}
use Rattle.cell_trace.specs.Trace.{most_parts}
use Rattle.cell_trace.proofs.PartLines.{with_cell}
use Rattle.cell_values.specs.Reading.{value_on}
use Rattle.cube_fixed.specs.Total.{no_terms}
use Rattle.rule_laws.proofs.SystemFacts.{add_pair}
use Rattle.rule_model.specs.Targets.{with_components}
use Rattle.cell_trace.proofs.sums.sum_of_components.Given as goal

abbrev pub invariant-loop-part : goal.invariant-loop-part
invariant-loop-part l = record {
  same : version_of l.reader ≡ version_of l.version;
  sum : l.sum ≡ fold (add_pair (value_on (version_of l.version))) no_terms (with_components l.space l.cell l.dim (take l.part-index l.components));
  parts : l.parts ≡ fold (with_cell (value_on (version_of l.version)) most_parts) none_listed (with_components l.space l.cell l.dim (take l.part-index l.components));
  few : l.sum.terms ≤ l.part-index;
}
