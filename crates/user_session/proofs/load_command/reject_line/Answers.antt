use Rattle.std.proofs.Common.{append_assoc}
use Rattle.user_session.proofs.load_command.reject_line.Goals as goal

pub returns : goal.returns
returns c = rw (c.into_bytes.ensures.value, c.in_ok-text.ensures.ok, c.cause_name-reason.ensures) (simp append_assoc)
