use Rattle.std.proofs.Common.{◌≡◌, ◌<◌, ℕ, [], length}
use Rattle.std.specs.Prelude.{slice_index_or}
use Rattle.rule_model.specs.BoundModel.{no_rules}
use Rattle.rule_model.specs.Inside.Files.{IsFile}
use Rattle.rule_model.proofs.filed.files_of_cubes.Given as goal

abbrev pub invariant-each : goal.invariant-each
invariant-each l = record {
  each : length l.files.items ≡ l.cube;
  file : (k : ℕ) → k < l.cube → IsFile l.space (slice_index_or l.cubes k no_rules).feeders (slice_index_or l.files.items k []);
}
