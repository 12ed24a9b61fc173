use Rattle.std.proofs.Common.{◌≡◌, ◌+◌, length}
use Rattle.version_book.specs.Passes.{IsOf}
use Rattle.sandbox.specs.Sandboxes.{answer}
use Rattle.sessions.specs.Inside.AllSessions.{AreRunning, commands_of}
use Rattle.sessions.specs.Inside.Gathered.{IsGiver}
use Rattle.sessions.proofs.opening.open_all.Given as goal

-- the users so far have sessions
abbrev pub invariant-loop-commands : goal.invariant-loop-commands
invariant-loop-commands g l = record {
  can_next : (goal.iterator-loop-commands g).can_next l.commands-iterator;
  is_finite : (goal.iterator-loop-commands g).is_finite l.commands-iterator;
  of : IsOf l.book l.giver;
  giver : IsGiver l.giver (length l.sessions.items + 1);
  commands : commands_of l.sessions.items ≡ l.yielded;
  running : AreRunning (answer g.W.World.effect g.W.World.after g.W.Layered.sandbox) g.W.World.after g.W.World.content g.W.Layered.sandbox.unfit g.W.Layered.kept_writes l.book l.sessions.items;
}
