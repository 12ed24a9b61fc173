-- The arguments so far follow the same.
use Rattle.std.proofs.Common.{◌≡◌, length}
use Rattle.read_sources.proofs.Likeness.{FollowUpTo}
use Rattle.read_sources.proofs.alike.args_alike.Given as goal

abbrev pub invariant-each : goal.invariant-each
invariant-each l = record {
  long : length l.one ≡ length l.other;
  so : FollowUpTo l.one l.other l.i;
}
