use Rattle.std.proofs.Common.{◌≡◌, ◌≤◌, take}
use Rattle.std.specs.Prelude.{fold}
use Rattle.cube_fixed.specs.Total.{no_terms}
use Rattle.rule_laws.proofs.SystemFacts.{add_pair}
use Rattle.rule_model.specs.Targets.{with_components}
use Rattle.rule_dense.specs.Inside.Plain.{table_of}
use Rattle.rule_dense.proofs.sums.sum_of_parts.Given as goal

abbrev pub invariant-loop-part : goal.invariant-loop-part
invariant-loop-part l = record {
  sum_is : l.sum ≡ fold (add_pair (table_of l.values)) no_terms (with_components l.space l.cell l.dim (take l.part-index l.parts));
  few : l.sum.terms ≤ l.part-index;
}
