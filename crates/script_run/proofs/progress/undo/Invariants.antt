use Rattle.std.proofs.Common.{◌≡◌, length, vec_len}
use Rattle.script_run.specs.Inside.Running.{AreFlagged, before_changes}
use Rattle.script_run.proofs.progress.undo.Given as goal

abbrev pub invariant-each : goal.invariant-each
invariant-each l = record {
  flags : AreFlagged l.changes.items l.is_changed.items;
  whole : length l.is_changed.items ≡ length l.variables.items;
  undone : before_changes l.changes.items l.variables.items ≡ before_changes l.fn.changes.items l.fn.variables.items;
}

abbrev pub decreases-each : goal.decreases-each
decreases-each l = vec_len l.changes
