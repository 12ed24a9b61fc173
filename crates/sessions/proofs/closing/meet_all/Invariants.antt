use Rattle.std.proofs.Common.{◌≡◌, ◌≤◌, map, vec_len, vec_capacity}
use Rattle.version_book.specs.Passes.{IsOf, next_of, numbers_of, opening_of, seen}
use Rattle.sandbox.specs.Sandboxes.{answer}
use Rattle.sessions.specs.Inside.AllSessions.{commands_of}
use Rattle.sessions.specs.Inside.Gathered.{IsGathered}
use Rattle.sessions.proofs.closing.meet_all.Given as goal

-- the passes of the sessions so far are in one
abbrev pub invariant-loop-session : goal.invariant-loop-session
invariant-loop-session g l = record {
  can_next : (goal.iterator-loop-session g).can_next l.session-iterator;
  is_finite : (goal.iterator-loop-session g).is_finite l.session-iterator;
  of : IsOf l.book l.all;
  next : next_of l.all ≡ next_of l.fn.first;
  room : vec_len l.fn.sessions ≤ vec_capacity l.told;
  gathered : IsGathered (answer g.W.World.effect g.W.World.after g.W.Layered.sandbox) g.W.World.after (g.W.World.content (opening_of l.book)) (commands_of l.yielded) l.told.items (numbers_of l.all) (seen l.all);
  told : l.told.items ≡ map (λ session. session.told.items) l.yielded;
}
