use Rattle.std.proofs.Common.{◌≡◌, ◌++◌, drop}
use Rattle.cube_words.specs.Words.{texts_of}
use Rattle.judged_files.specs.Loads.{user_files}
use Rattle.judged_files.proofs.loads.add_files.Given as goal

-- the names so far, and then those of the commands that are left
abbrev pub invariant-loop-command : goal.invariant-loop-command
invariant-loop-command l =
    texts_of l.names.items ++ user_files (drop l.command-index l.commands) ≡ texts_of l.fn.names.items ++ user_files l.commands
