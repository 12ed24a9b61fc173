use Rattle.std.proofs.Common.{◌≡◌, drop}
use Rattle.judged_files.specs.Users.{unknown_script}
use Rattle.judged_files.proofs.users.unknown_script.Given as goal

-- no such load so far
abbrev pub invariant-loop-index : goal.invariant-loop-index
invariant-loop-index l =
    unknown_script l.scripts l.sources l.users ≡ unknown_script l.scripts (drop l.index l.sources) (drop l.index l.users)
