use Rattle.std.proofs.Common.{◌≡◌}
use Rattle.std.specs.Prelude.{replicate}
use Rattle.version_core.specs.CoreState.{new_user}
use Rattle.version_core.proofs.state.Core.start.Given as goal

-- as many new users as were made so far
abbrev pub invariant-loop : goal.invariant-loop
invariant-loop g l = l.all.items ≡ replicate l.counter new_user
