use Rattle.user_session.specs.Content.{content_of}
use Rattle.user_session.proofs.Accepted.{accepted-within}
use Rattle.user_session.proofs.InTurn.{goes_on}
use Rattle.user_session.proofs.sandboxes.PlanWorldLayered.go_on.Goals as goal

pub returns : goal.returns
returns c =
    let accepted = c.requires.accepted in
    record {
      goes_on = λ below layer same fits.
          goes_on (content_of c.args.private.now) (content_of c.in_ok-next.next) below layer c.args.writes.now
          (accepted-within (content_of c.args.private.now) accepted.0 c.args.writes.now accepted.1 accepted.2) c.in_ok-next.ensures.next same fits;
      none = λ is. absurd (cc);
    }
