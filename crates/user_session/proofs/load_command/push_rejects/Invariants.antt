use Rattle.std.proofs.Common.{◌≡◌, ◌++◌, take}
use Rattle.std.specs.List.{flat_map}
use Rattle.user_session.specs.RejectedLoad.{reject_line}
use Rattle.user_session.proofs.load_command.push_rejects.Given as goal

-- a line stands there for each of the records so far
abbrev pub invariant-each : goal.invariant-each
invariant-each l = l.text.items ≡ l.fn.text.items ++ flat_map reject_line (take l.index l.rejects)
