use Rattle.std.proofs.Common.{◌≤◌, drop}
use Rattle.judged_files.proofs.UserFacts.{AreRead}
use Rattle.judged_files.proofs.users.parse_all.Given as goal

-- the texts so far were read
abbrev pub invariant-loop-source : goal.invariant-loop-source
invariant-loop-source l = record {
  read : AreRead l.sources (drop l.source-index l.sources) l.before l.all.items;
  few : l.before ≤ 65536;
}
