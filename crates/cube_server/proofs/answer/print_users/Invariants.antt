use Rattle.std.proofs.Common.{◌≡◌, ◌++◌, ◌+◌, length}
use Rattle.cube_server.specs.Inside.Ending.{joined}
use Rattle.cube_server.specs.Output.{numbered, user_text, users_text}
use Rattle.cube_server.proofs.answer.print_users.Given as goal

-- the texts so far, and then those of the users that are left
abbrev pub invariant-loop-of_user : goal.invariant-loop-of_user
invariant-loop-of_user l = record {
  texts : joined l.pieces.items ++ numbered user_text (l.user + 1) l.of_user-iterator.rest.items ≡ users_text l.fn.told.items;
  left : l.user + length l.of_user-iterator.rest.items ≡ l.count;
}
