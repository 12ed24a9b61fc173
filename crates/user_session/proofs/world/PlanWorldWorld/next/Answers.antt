use Rattle.user_session.specs.Content.{content_of}
use Rattle.user_session.proofs.Accepted.{accepted-within}
use Rattle.user_session.proofs.Within.{AreWithin}
use Rattle.user_session.proofs.world.PlanWorldWorld.next.Goals.{After-as_slice}
use Rattle.user_session.proofs.world.PlanWorldWorld.next.Goals as goal

-- the writes of an accepted command
within : (c : After-as_slice) → AreWithin (content_of c.args.state.now) c.args.writes.now
within c = let accepted = c.requires.accepted in accepted-within (content_of c.args.state.now) accepted.0 c.args.writes.now accepted.1 accepted.2

pub next_within-requires-clause-leaves : goal.next_within-requires-clause-leaves
next_within-requires-clause-leaves c = rw c.as_slice.ensures (within (goal.at.next_within-requires-clause-leaves c).After-as_slice).leaves

pub next_within-requires-clause-within : goal.next_within-requires-clause-within
next_within-requires-clause-within c = rw c.as_slice.ensures (within (goal.at.next_within-requires-clause-within c).After-as_slice).within
