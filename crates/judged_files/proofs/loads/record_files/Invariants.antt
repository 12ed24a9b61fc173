use Rattle.std.proofs.Common.{◌≡◌, ◌++◌, drop}
use Rattle.cube_words.specs.Words.{texts_of}
use Rattle.judged_files.specs.Loads.{record_files}
use Rattle.judged_files.proofs.loads.record_files.Given as goal

-- the names so far, and then those of the users that are left
abbrev pub invariant-loop-commands : goal.invariant-loop-commands
invariant-loop-commands l = texts_of l.names.items ++ record_files (drop l.commands-index l.users) ≡ record_files l.users
