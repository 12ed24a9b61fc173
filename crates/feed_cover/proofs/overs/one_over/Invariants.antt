use Rattle.std.proofs.Common.{◌≡◌, ◌<◌, ℕ, Some, ℤ, pos, get_or}
use Rattle.cover_laws.specs.Looking.{sent}
use Rattle.feed_cover.proofs.overs.one_over.Given as goal

abbrev pub invariant-each : goal.invariant-each
invariant-each l = (i : ℕ) → i < l.k → sent l.to (get_or {A = ℕ × ℤ} l.pairs i (0, pos 0)).0 ≡ Some l.over
