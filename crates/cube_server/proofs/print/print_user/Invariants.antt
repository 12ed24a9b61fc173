use Rattle.std.proofs.Common.{◌≡◌, ◌++◌, ◌+◌, length}
use Rattle.cube_server.specs.Output.{numbered, told_line, user_text}
use Rattle.cube_server.proofs.print.print_user.Given as goal

-- the text so far, and then the lines of the replies that are left
abbrev pub invariant-loop-one : goal.invariant-loop-one
invariant-loop-one l = record {
  text : l.text.items ++ numbered told_line (l.number + 1) l.one-iterator.rest.items ≡ user_text l.fn.user l.fn.told;
  left : l.number + length l.one-iterator.rest.items ≡ l.count;
}
