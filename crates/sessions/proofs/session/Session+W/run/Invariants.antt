use Rattle.std.proofs.Common.{◌≡◌, ◌-◌, length}
use Rattle.version_book.specs.Passes.{opening_of}
use Rattle.sandbox.specs.Sandboxes.{answer}
use Rattle.sessions.specs.Sessions.{IsRunning}
use Rattle.sessions.specs.Answers.{HasAnsweredMore, HasGoneOn}
use Rattle.sessions.proofs.session.Session+W.run.Given as goal

abbrev pub invariant-loop-alloc : goal.invariant-loop-alloc
invariant-loop-alloc g l = record {
  running : IsRunning (answer g.W.World.effect g.W.World.after g.W.Layered.sandbox) g.W.World.after g.W.World.content g.W.Layered.sandbox.unfit g.W.Layered.kept_writes l.book l.self;
  user : l.self.user ≡ l.fn.self.user;
  commands : l.self.commands ≡ l.fn.self.commands;
  more : HasAnsweredMore (answer g.W.World.effect g.W.World.after g.W.Layered.sandbox) g.W.World.after g.W.Layered.kept_writes (g.W.World.content (opening_of l.book)) l.fn.self l.self;
  gone_on : HasGoneOn l.fn.self l.self;
}

abbrev pub decreases-loop-alloc : goal.decreases-loop-alloc
decreases-loop-alloc g l = length l.self.commands - length l.self.told.items
