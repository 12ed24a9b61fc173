use Rattle.std.proofs.Common.{◌≡◌, ◌++◌, drop}
use Rattle.cube_server.specs.Output.{numbered, entry_line, history_text}
use Rattle.cube_server.proofs.print.print_history.Given as goal

-- the text so far, and then the lines that are left
abbrev pub invariant-loop-place : goal.invariant-loop-place
invariant-loop-place l = l.text.items ++ numbered entry_line l.place (drop l.place l.log) ≡ history_text l.log
