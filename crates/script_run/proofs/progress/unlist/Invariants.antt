use Rattle.std.proofs.Common.{◌≡◌, length, vec_len}
use Rattle.script_run.specs.Inside.Running.{AreFlagged}
use Rattle.script_run.proofs.progress.unlist.Given as goal

abbrev pub invariant-each : goal.invariant-each
invariant-each l = record {
  flags : AreFlagged l.changes.items l.is_changed.items;
  length : length l.is_changed.items ≡ length l.fn.is_changed.items;
}

abbrev pub decreases-each : goal.decreases-each
decreases-each l = vec_len l.changes
