use Rattle.std.proofs.Common.{◌≡◌, ◌≤◌}
use Rattle.std.specs.List.{range_with_len}
use Rattle.cube_fixed.specs.Total.{no_terms}
use Rattle.rule_dense.specs.Inside.Plain.{table_of, with_leaf}
use Rattle.std.specs.Prelude.{fold}
use Rattle.rule_dense.proofs.sums.sum_below.Given as goal

abbrev pub invariant-loop-number : goal.invariant-loop-number
invariant-loop-number l = record {
  sum_is : l.sum ≡ fold (with_leaf l.model.space (table_of l.values) l.cell) no_terms (range_with_len l.first l.number);
  few : l.sum.terms ≤ l.number;
}
